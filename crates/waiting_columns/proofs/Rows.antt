-- The waiting table under the laws of columns: the tests tell whether the columns make a table and whether it is well formed, a table is the table of its
-- senders, and senders that fit are the senders of their table, and still fit after each step.
use Rattle.std.specs.Prelude.{Some, None, Result, Ok, Err}
use Prim.Native.Nat.{ℕ, ◌+◌, ◌-◌, ◌<◌, ◌≤◌}
use native.Mathlib.Omega.{arith}
use mathlib.Core.Bool.{Bool, true, ◌&&◌}
use mathlib.Core.List.{List, [], ◌∷◌, map}
use mathlib.Core.Path.{◌≡◌, refl, sym, ap, ◌∙◌}
use lib.Dec.{leb}
use lib.ListN.{length, take, get_or, set}
use lib.Seq.{take_all}
use Rattle.standard.specs.Ordered.{lookup, put, remove, pop_first, count_with}
use Rattle.standard.specs.Tells.{Tells}
use Rattle.standard.proofs.Tells.{tells-one, tells_both, tells-so, tells-true}
use Rattle.flat_map.specs.Rows.{pad}
use Rattle.flat_map.specs.Seek.{place_of}
use Rattle.flat_map.specs.Shift.{shift_in, shift_out}
use Rattle.flat_map.specs.Table.{Rising, ZeroFrom, Each, every}
use Rattle.flat_map.proofs.Each.{each-told, each_placed, each_at, each-put, each-remove}
use Rattle.flat_map.proofs.Every.{every-at, every-put, every-remove, every-pop}
use Rattle.flat_map.proofs.Fits as fit
use Rattle.flat_map.proofs.Lists.{popped, popped-length, popped-none}
use Rattle.flat_map.proofs.Ordered.{count-with-missing, ascending-pop}
use Rattle.flat_map.proofs.Table as flat
use Rattle.flat_map.proofs.Table.{remove_absent}
use Rattle.columns.specs.Columns.{at, entries, Under}
use Rattle.columns.specs.Room.{room_for}
use Rattle.columns.specs.Table.{Sound}
use Rattle.columns.proofs.Places.{entries-length}
use Rattle.columns.proofs.Told.{ordered-told, under-told}
use Rattle.columns.proofs.Rows as rows
use Rattle.columns.proofs.View as view
use Rattle.ring_buffer.specs.Word.{ring_word, word_end}
use Rattle.waiting_table.specs.declared.WaitingEntry.{WaitingEntry}
use Rattle.waiting_table.specs.Entry.{waiting_key, blank_waiting, is_sound}
use Rattle.waiting_columns.specs.Codec.{waiting_numbers, waiting_of, waiting_in, Clean, InRange}
use Rattle.waiting_columns.specs.Table.{WaitingTable, in_columns, Formed64, formed64, RingsSound, WellFormed, well_formed, Fits, FitRows, Keeps, Holds, rows_of, table_of}
use Rattle.waiting_columns.proofs.Codec.{codec}

pub formed-told : (t : WaitingTable) → Tells (Formed64 t) (formed64 t)
formed-told t =
    tells-so (λ p. record { ordered = p.0; fields = p.1 }) (λ w. (w.ordered, w.fields))
    (tells_both (ordered-told 64 t.keys (t.samples ∷ []) t.count) (under-told word_end (omega arith) t.samples))

pub well-formed-told : (t : WaitingTable) → Tells (WellFormed t) (well_formed t)
well-formed-told t =
    tells-so (λ p. record { formed = p.0; sound = p.1 }) (λ w. (w.formed, w.sound))
    (tells_both (formed-told t) (tells-true (every is_sound (rows_of t))))

-- an answer that tells it is the computed test
pub formed-is : (t : WaitingTable) {r : Bool} → Tells (Formed64 t) r → r ≡ formed64 t
formed-is t told = tells-one told (formed-told t)

pub well-formed-is : (t : WaitingTable) {r : Bool} → Tells (WellFormed t) r → r ≡ well_formed t
well-formed-is t told = tells-one told (well-formed-told t)

-- told by a test of each column
pub parts-told : (t : WaitingTable) → length t.keys ≡ 64 → length t.samples ≡ 64 → t.count ≤ 64 → {a b c d : Bool}
    → Tells (Rising t.keys t.count) a → Tells (ZeroFrom t.keys t.count) b → Tells (ZeroFrom t.samples t.count) c → Tells (Under word_end t.samples) d
    → Tells (Formed64 t) (((a && b) && c) && d)
parts-told t k l n ta tb tc td =
    tells-so
    (λ p. record { ordered = record { long = (k, (l, tt)); small = n; rising = p.0.0.0; zeros = (p.0.0.1, (p.0.1, tt)) }; fields = p.1 })
    (λ w. (((w.ordered.rising, w.ordered.zeros.0), w.ordered.zeros.1.0), w.fields))
    (tells_both (tells_both (tells_both ta tb) tc) td)

-- as columns of `columns`, and back
pub table-sound : (t : WaitingTable) → Formed64 t → Sound 64 2 Clean t.keys (t.samples ∷ []) t.count
table-sound t w = record { wide = refl; ordered = w.ordered; clean = w.fields }

pub sound-formed : (t : WaitingTable) → Sound 64 2 Clean t.keys (t.samples ∷ []) t.count → Formed64 t
sound-formed t s = record { ordered = s.ordered; fields = s.clean }

-- senders in a table
module _ (t : WaitingTable) (w : Formed64 t) where
  pub many : length (rows_of t) ≡ t.count
  many = rows.rows-many 64 2 waiting_key blank_waiting waiting_of waiting_numbers Clean InRange codec t.keys (t.samples ∷ []) t.count (table-sound t w)

  -- the table is that of its senders
  pub table-view : t ≡ table_of (rows_of t)
  unfolding table_of
  table-view = λ z. record { keys = column 0 (omega arith) z; samples = column 1 (omega arith) z; count = sym many z } where
    column : (m : ℕ) → m < 2 → get_or (t.keys ∷ t.samples ∷ []) m [] ≡ pad 64 0 (map (λ (e : WaitingEntry). get_or (waiting_numbers e) m 0) (rows_of t))
    column = view.column-is 64 2 waiting_key blank_waiting waiting_of waiting_numbers Clean InRange codec t.keys (t.samples ∷ []) t.count (table-sound t w)

  pub table_fits : Fits (rows_of t)
  table_fits = record {
    fit = rows.rows_fit 64 2 waiting_key blank_waiting waiting_of waiting_numbers Clean InRange codec t.keys (t.samples ∷ []) t.count (table-sound t w);
    ranged = each_placed InRange blank_waiting es t.count (omega (arith, entries-length waiting_of 64 cs, w.ordered.small)) (λ i h. rw (reads i) (codec.within (at i cs) (w.fields i)));
  } where
    cs : List (List ℕ)
    cs = t.keys ∷ t.samples ∷ []

    es : List WaitingEntry
    es = entries waiting_of 64 cs

    reads : (i : ℕ) → get_or es i blank_waiting ≡ waiting_of (at i cs)
    reads = rows.row_reads 64 2 waiting_key blank_waiting waiting_of waiting_numbers Clean InRange codec t.keys (t.samples ∷ []) t.count (table-sound t w)

  -- what stands in a place in use
  pub row-at : (i : ℕ) → i < t.count → get_or (rows_of t) i blank_waiting ≡ waiting_in (get_or t.keys i 0) (get_or t.samples i 0)
  row-at = view.row_is 64 2 waiting_key blank_waiting waiting_of waiting_numbers Clean InRange codec t.keys (t.samples ∷ []) t.count (table-sound t w)

  -- a table is well formed where each word of samples in use holds a ring that is
  pub table-told : {r : Bool} → Tells (RingsSound t.samples t.count) r → Tells (WellFormed t) r
  table-told = tells-so there back where
    there : RingsSound t.samples t.count → WellFormed t
    there f = record {
      formed = w;
      sound =
          (each-told (λ (e : WaitingEntry). is_sound e ≡ true) is_sound (λ e. tells-true (is_sound e)) (rows_of t)).flag
          (rw (sym (take_all t.count (rows_of t) (omega (arith, many))))
          (each_placed (λ (e : WaitingEntry). is_sound e ≡ true) blank_waiting (rows_of t) t.count (omega (arith, many)) (λ i h. ap is_sound (row-at i h) ∙ f i h)));
    }

    back : WellFormed t → RingsSound t.samples t.count
    back f i h = sym (ap is_sound (row-at i h)) ∙ every-at is_sound (rows_of t) i blank_waiting f.sound (omega (arith, h, many))

  -- a place in use is one of every column
  pub in-columns : (i : ℕ) → i < t.count → (i < length t.keys) × (i < length t.samples)
  in-columns i h = (omega (arith, h, w.ordered.small, w.ordered.long.0), omega (arith, h, w.ordered.small, w.ordered.long.1.0))

  -- what the place of a sender says of the rows
  pub place-within : (k i : ℕ) → Ok i ≡ place_of (take t.count t.keys) k → i < t.count
  place-within = rows.found_below 64 2 waiting_key blank_waiting waiting_of waiting_numbers Clean InRange codec t.keys (t.samples ∷ []) t.count (table-sound t w)

  pub found-key : (k i : ℕ) → Ok i ≡ place_of (take t.count t.keys) k → get_or t.keys i 0 ≡ k
  found-key = rows.found-key 64 2 waiting_key blank_waiting waiting_of waiting_numbers Clean InRange codec t.keys (t.samples ∷ []) t.count (table-sound t w)

  pub found-row : (k i : ℕ) → Ok i ≡ place_of (take t.count t.keys) k → lookup waiting_key k (rows_of t) ≡ Some (waiting_in (get_or t.keys i 0) (get_or t.samples i 0))
  found-row = rows.found 64 2 waiting_key blank_waiting waiting_of waiting_numbers Clean InRange codec t.keys (t.samples ∷ []) t.count (table-sound t w)

  pub missing-row : (k i : ℕ) → Err i ≡ place_of (take t.count t.keys) k → lookup waiting_key k (rows_of t) ≡ None
  missing-row = rows.missing 64 2 waiting_key blank_waiting waiting_of waiting_numbers Clean InRange codec t.keys (t.samples ∷ []) t.count (table-sound t w)

  pub missing-within : (k i : ℕ) → Err i ≡ place_of (take t.count t.keys) k → i ≤ t.count
  missing-within = flat.missing-within 64 waiting_key blank_waiting t.keys (entries waiting_of 64 (t.keys ∷ t.samples ∷ [])) t.count
      (rows.table 64 2 waiting_key blank_waiting waiting_of waiting_numbers Clean InRange codec t.keys (t.samples ∷ []) t.count (table-sound t w))

  -- a sender that is put in finds a place
  pub free : (k i : ℕ) → Err i ≡ place_of (take t.count t.keys) k → count_with waiting_key k (rows_of t) ≤ 64 → t.count < 64
  free k i p room = omega (arith, room, many, count-with-missing waiting_key k (rows_of t) (missing-row k i p))

  pub room-told : (k : ℕ) (p : Result ℕ ℕ) → p ≡ place_of (take t.count t.keys) k → leb (count_with waiting_key k (rows_of t)) 64 ≡ room_for p t.count 64
  room-told = rows.room-told 64 2 waiting_key blank_waiting waiting_of waiting_numbers Clean InRange codec t.keys (t.samples ∷ []) t.count (table-sound t w)

  -- the keys in use are those of the senders
  pub keys-are : take t.count t.keys ≡ map waiting_key (rows_of t)
  keys-are = flat.keys-rows 64 waiting_key blank_waiting t.keys (entries waiting_of 64 (t.keys ∷ t.samples ∷ [])) t.count
      (rows.table 64 2 waiting_key blank_waiting waiting_of waiting_numbers Clean InRange codec t.keys (t.samples ∷ []) t.count (table-sound t w))

  -- samples stored over those of their sender, put in where there is none, taken out, the first taken out
  pub stored-over : (e : WaitingEntry) → InRange e → (i : ℕ) → Ok i ≡ place_of (take t.count t.keys) (waiting_key e)
      → Keeps (in_columns t.keys (set t.samples i (ring_word e.lqas)) t.count) (put waiting_key e (rows_of t))
  stored-over e r i p = let h = rows.over-put 64 2 waiting_key blank_waiting waiting_of waiting_numbers Clean InRange codec t.keys (t.samples ∷ []) t.count (table-sound t w) e r i p in
      record { formed = sound-formed (in_columns t.keys (set t.samples i (ring_word e.lqas)) t.count) h.0; rows = h.1 }

  pub put_in : (e : WaitingEntry) → InRange e → (i : ℕ) → Err i ≡ place_of (take t.count t.keys) (waiting_key e) → t.count < 64
      → Keeps (in_columns (shift_in i (waiting_key e) t.keys) (shift_in i (ring_word e.lqas) t.samples) (t.count + 1)) (put waiting_key e (rows_of t))
  put_in e r i p l = let h = rows.in-put 64 2 waiting_key blank_waiting waiting_of waiting_numbers Clean InRange codec t.keys (t.samples ∷ []) t.count (table-sound t w) e r i p l in
      record { formed = sound-formed (in_columns (shift_in i (waiting_key e) t.keys) (shift_in i (ring_word e.lqas) t.samples) (t.count + 1)) h.0; rows = h.1 }

  pub taken_out : (k i : ℕ) → Ok i ≡ place_of (take t.count t.keys) k
      → Keeps (in_columns (shift_out i 0 t.keys) (shift_out i 0 t.samples) (t.count - 1)) (remove waiting_key k (rows_of t))
  taken_out k i p = let h = rows.out-key 64 2 waiting_key blank_waiting waiting_of waiting_numbers Clean InRange codec t.keys (t.samples ∷ []) t.count (table-sound t w) i k p in
      record { formed = sound-formed (in_columns (shift_out i 0 t.keys) (shift_out i 0 t.samples) (t.count - 1)) h.0; rows = h.1 }

  pub first_out : 0 < t.count → Keeps (in_columns (shift_out 0 0 t.keys) (shift_out 0 0 t.samples) (t.count - 1)) (pop_first (rows_of t))
  first_out n = let h = rows.out_at 64 2 waiting_key blank_waiting waiting_of waiting_numbers Clean InRange codec t.keys (t.samples ∷ []) t.count (table-sound t w) 0 n in
      record { formed = sound-formed (in_columns (shift_out 0 0 t.keys) (shift_out 0 0 t.samples) (t.count - 1)) h.0; rows = h.1 ∙ popped (rows_of t) }

  -- where there is no such sender, or none at all, the table stays
  pub none_out : (k i : ℕ) → Err i ≡ place_of (take t.count t.keys) k → Keeps t (remove waiting_key k (rows_of t))
  none_out k i p = record { formed = w; rows = sym (remove_absent waiting_key blank_waiting k (rows_of t) (missing-row k i p)) }

  pub empty-out : t.count ≡ 0 → Keeps t (pop_first (rows_of t))
  empty-out e = record { formed = w; rows = sym (popped-none (rows_of t) (many ∙ e)) }

-- a table is that of the senders that it holds, and well formed where they are sound
pub keeps-table : (t : WaitingTable) (xs : List WaitingEntry) → Keeps t xs → t ≡ table_of xs
keeps-table t xs h = table-view t h.formed ∙ ap table_of h.rows

pub keeps-holds : (t : WaitingTable) (xs : List WaitingEntry) → Keeps t xs → every is_sound xs ≡ true → Holds t xs
keeps-holds t xs h s = record { formed = record { formed = h.formed; sound = ap (every is_sound) h.rows ∙ s }; rows = h.rows }

pub holds-keeps : (t : WaitingTable) (xs : List WaitingEntry) → Holds t xs → Keeps t xs
holds-keeps t xs h = record { formed = h.formed.formed; rows = h.rows }

pub holds-table : (t : WaitingTable) (xs : List WaitingEntry) → Holds t xs → t ≡ table_of xs
holds-table t xs h = keeps-table t xs (holds-keeps t xs h)

pub table-fit : (t : WaitingTable) → WellFormed t → FitRows (rows_of t)
table-fit t w = record { fits = table_fits t w.formed; sound = w.sound }

-- the table of senders that fit holds them, and is well formed where they are sound
module _ (xs : List WaitingEntry) (f : Fits xs) where
  in-range : (i : ℕ) → i < length xs → InRange (get_or xs i blank_waiting)
  in-range = each_at InRange blank_waiting xs (length xs) (omega arith) (rw (take_all (length xs) xs (omega arith)) f.ranged)

  pub table-keeps : Keeps (table_of xs) xs
  unfolding table_of
  table-keeps = record {
    formed = sound-formed (table_of xs) (view.made-sound 64 2 waiting_key blank_waiting waiting_of waiting_numbers Clean InRange codec xs f.fit in-range 1 refl);
    rows = view.made-rows 64 2 waiting_key blank_waiting waiting_of waiting_numbers Clean InRange codec xs f.fit in-range 1 refl;
  }

  pub fits-put : (e : WaitingEntry) → InRange e → count_with waiting_key (waiting_key e) xs ≤ 64 → Fits (put waiting_key e xs)
  fits-put e r room = record { fit = fit.fit-put 64 waiting_key blank_waiting xs f.fit e room; ranged = each-put InRange waiting_key e xs r f.ranged }

  pub fits-remove : (k : ℕ) → Fits (remove waiting_key k xs)
  fits-remove k = record { fit = fit.fit-remove 64 waiting_key blank_waiting xs f.fit k; ranged = each-remove InRange waiting_key k xs f.ranged }

  pub fits-pop : Fits (pop_first xs)
  fits-pop = record {
    fit = record {
      small = omega (arith, f.fit.small, popped-length xs);
      ascending = ascending-pop waiting_key xs f.fit.ascending;
    };
    ranged = go xs f.ranged;
  } where
    go : (ys : List WaitingEntry) → Each InRange ys → Each InRange (pop_first ys)
    go [] r = tt
    go (y ∷ ys) r = r.1

pub fit_none : FitRows []
fit_none = record { fits = record { fit = record { small = omega arith; ascending = tt }; ranged = tt }; sound = refl }

module _ (xs : List WaitingEntry) (f : FitRows xs) where
  pub table-rows : rows_of (table_of xs) ≡ xs
  table-rows = (table-keeps xs f.fits).rows

  pub table-holds : Holds (table_of xs) xs
  table-holds = keeps-holds (table_of xs) xs (table-keeps xs f.fits) f.sound

  pub table-formed : WellFormed (table_of xs)
  table-formed = table-holds.formed

  -- and what each step leaves of them fits
  pub fit-put : (e : WaitingEntry) → InRange e → is_sound e ≡ true → count_with waiting_key (waiting_key e) xs ≤ 64 → FitRows (put waiting_key e xs)
  fit-put e r s room = record { fits = fits-put xs f.fits e r room; sound = every-put is_sound waiting_key e xs s f.sound }

  pub fit-remove : (k : ℕ) → FitRows (remove waiting_key k xs)
  fit-remove k = record { fits = fits-remove xs f.fits k; sound = every-remove is_sound waiting_key k xs f.sound }

  pub fit-pop : FitRows (pop_first xs)
  fit-pop = record { fits = fits-pop xs f.fits; sound = every-pop is_sound xs f.sound }
