-- The record table under the laws of columns: the test tells well-formedness, a well-formed table is the table of its entries,
-- and entries that fit, each with few relays, are the entries of their table, and still fit after each step.
use Rattle.std.specs.Prelude.{Some, None, Ok, Err}
use Prim.Native.Nat.{ℕ, ◌+◌, ◌-◌, ◌<◌, ◌≤◌}
use native.Mathlib.Omega.{arith}
use mathlib.Core.Bool.{Bool, ◌&&◌}
use mathlib.Core.List.{List, [], ◌∷◌, map}
use mathlib.Core.Path.{◌≡◌, refl, sym}
use lib.ListN.{length, take, get_or, set}
use lib.Seq.{take_all}
use Rattle.standard.specs.declared.RecordEntry.{RecordEntry}
use Rattle.standard.specs.Ordered.{lookup, put, remove, keep, count_with}
use Rattle.standard.specs.Record.{record_key}
use Rattle.standard.specs.Tells.{Tells}
use Rattle.standard.proofs.Tells.{tells-one, tells_both, tells-so}
use Rattle.flat_map.specs.Rows.{pad}
use Rattle.flat_map.specs.Seek.{place_of}
use Rattle.flat_map.specs.Shift.{shift_in, shift_out}
use Rattle.flat_map.specs.Table.{Rising, ZeroFrom, Each}
use Rattle.flat_map.proofs.Each.{each_placed, each_at, each-put, each-remove, each_keep}
use Rattle.flat_map.proofs.Ordered.{count-with-missing}
use Rattle.flat_map.proofs.Table as flat
use Rattle.flat_map.proofs.Fits.{fit-put, fit-remove, fit-keep, fit-map}
use Rattle.columns.specs.Columns.{at, entries, Under}
use Rattle.columns.specs.Table.{Sound}
use Rattle.columns.proofs.Places.{entries-length}
use Rattle.columns.proofs.Told.{ordered-told, under-told}
use Rattle.columns.proofs.Rows as rows
use Rattle.columns.proofs.View as view
use Rattle.record_table.specs.Codec.{record_numbers, record_of, record_in, length_end, Clean, InRange}
use Rattle.record_table.specs.Table.{RecordTable, blank_record, WellFormed, well_formed, rows_of, table_of, Fits, Holds, in_columns}
use Rattle.record_table.proofs.Codec.{codec}

pub well-formed-told : (t : RecordTable) → Tells (WellFormed t) (well_formed t)
well-formed-told t =
    tells-so (λ p. record { ordered = p.0; few = p.1 }) (λ w. (w.ordered, w.few))
    (tells_both (ordered-told 64 t.keys (t.lengths ∷ []) t.count) (under-told length_end (omega arith) t.lengths))

-- an answer that tells it is the computed test
pub formed-is : (t : RecordTable) {r : Bool} → Tells (WellFormed t) r → r ≡ well_formed t
formed-is t told = tells-one told (well-formed-told t)

-- told by a test of each column
pub parts-told : (t : RecordTable) → length t.keys ≡ 64 → length t.lengths ≡ 64 → t.count ≤ 64 → {a b c d : Bool}
    → Tells (Rising t.keys t.count) a → Tells (ZeroFrom t.keys t.count) b → Tells (ZeroFrom t.lengths t.count) c → Tells (Under length_end t.lengths) d
    → Tells (WellFormed t) (((a && b) && c) && d)
parts-told t k l n ta tb tc td =
    tells-so
    (λ p. record { ordered = record { long = (k, (l, tt)); small = n; rising = p.0.0.0; zeros = (p.0.0.1, (p.0.1, tt)) }; few = p.1 })
    (λ w. (((w.ordered.rising, w.ordered.zeros.0), w.ordered.zeros.1.0), w.few))
    (tells_both (tells_both (tells_both ta tb) tc) td)

-- as columns of `columns`, and back
pub table-sound : (t : RecordTable) → WellFormed t → Sound 64 2 Clean t.keys (t.lengths ∷ []) t.count
table-sound t w = record { wide = refl; ordered = w.ordered; clean = w.few }

pub sound-formed : (t : RecordTable) → Sound 64 2 Clean t.keys (t.lengths ∷ []) t.count → WellFormed t
sound-formed t s = record { ordered = s.ordered; few = s.clean }

-- entries in a well-formed table
module _ (t : RecordTable) (w : WellFormed t) where
  pub many : length (rows_of t) ≡ t.count
  many = rows.rows-many 64 2 record_key blank_record record_of record_numbers Clean InRange codec t.keys (t.lengths ∷ []) t.count (table-sound t w)

  -- the table is that of its entries
  pub table-view : t ≡ table_of (rows_of t)
  unfolding table_of
  table-view = λ z. record { keys = column 0 (omega arith) z; lengths = column 1 (omega arith) z; count = sym many z } where
    column : (m : ℕ) → m < 2 → get_or (t.keys ∷ t.lengths ∷ []) m [] ≡ pad 64 0 (map (λ (e : RecordEntry). get_or (record_numbers e) m 0) (rows_of t))
    column = view.column-is 64 2 record_key blank_record record_of record_numbers Clean InRange codec t.keys (t.lengths ∷ []) t.count (table-sound t w)

  pub table-fit : Fits (rows_of t)
  table-fit = record {
    fit = rows.rows_fit 64 2 record_key blank_record record_of record_numbers Clean InRange codec t.keys (t.lengths ∷ []) t.count (table-sound t w);
    ranged = each_placed InRange blank_record es t.count (omega (arith, entries-length record_of 64 cs, w.ordered.small)) (λ i h. rw (reads i) (w.few i));
  } where
    cs : List (List ℕ)
    cs = t.keys ∷ t.lengths ∷ []

    es : List RecordEntry
    es = entries record_of 64 cs

    reads : (i : ℕ) → get_or es i blank_record ≡ record_of (at i cs)
    reads = rows.row_reads 64 2 record_key blank_record record_of record_numbers Clean InRange codec t.keys (t.lengths ∷ []) t.count (table-sound t w)

  -- what stands in a place in use
  pub row-at : (i : ℕ) → i < t.count → get_or (rows_of t) i blank_record ≡ record_in (get_or t.keys i 0) (get_or t.lengths i 0)
  row-at = view.row_is 64 2 record_key blank_record record_of record_numbers Clean InRange codec t.keys (t.lengths ∷ []) t.count (table-sound t w)

  -- what the place of a destination says of the entries
  pub place-within : (k i : ℕ) → Ok i ≡ place_of (take t.count t.keys) k → i < t.count
  place-within = rows.found_below 64 2 record_key blank_record record_of record_numbers Clean InRange codec t.keys (t.lengths ∷ []) t.count (table-sound t w)

  pub found-key : (k i : ℕ) → Ok i ≡ place_of (take t.count t.keys) k → get_or t.keys i 0 ≡ k
  found-key = rows.found-key 64 2 record_key blank_record record_of record_numbers Clean InRange codec t.keys (t.lengths ∷ []) t.count (table-sound t w)

  pub found-row : (k i : ℕ) → Ok i ≡ place_of (take t.count t.keys) k → lookup record_key k (rows_of t) ≡ Some (record_in (get_or t.keys i 0) (get_or t.lengths i 0))
  found-row = rows.found 64 2 record_key blank_record record_of record_numbers Clean InRange codec t.keys (t.lengths ∷ []) t.count (table-sound t w)

  pub missing-row : (k i : ℕ) → Err i ≡ place_of (take t.count t.keys) k → lookup record_key k (rows_of t) ≡ None
  missing-row = rows.missing 64 2 record_key blank_record record_of record_numbers Clean InRange codec t.keys (t.lengths ∷ []) t.count (table-sound t w)

  pub missing-within : (k i : ℕ) → Err i ≡ place_of (take t.count t.keys) k → i ≤ t.count
  missing-within = flat.missing-within 64 record_key blank_record t.keys (entries record_of 64 (t.keys ∷ t.lengths ∷ [])) t.count
      (rows.table 64 2 record_key blank_record record_of record_numbers Clean InRange codec t.keys (t.lengths ∷ []) t.count (table-sound t w))

  -- an entry that is put in finds a place
  pub free : (k i : ℕ) → Err i ≡ place_of (take t.count t.keys) k → count_with record_key k (rows_of t) ≤ 64 → t.count < 64
  free k i p room = omega (arith, room, many, count-with-missing record_key k (rows_of t) (missing-row k i p))

  -- the keys in use are those of the entries
  pub keys-are : take t.count t.keys ≡ map record_key (rows_of t)
  keys-are = flat.keys-rows 64 record_key blank_record t.keys (entries record_of 64 (t.keys ∷ t.lengths ∷ [])) t.count
      (rows.table 64 2 record_key blank_record record_of record_numbers Clean InRange codec t.keys (t.lengths ∷ []) t.count (table-sound t w))

  -- an entry stored over that of its destination, put in where there is none, and taken out
  pub stored-over : (e : RecordEntry) → InRange e → (i : ℕ) → Ok i ≡ place_of (take t.count t.keys) (record_key e)
      → Holds (in_columns t.keys (set t.lengths i e.relay_count) t.count) (put record_key e (rows_of t))
  stored-over e r i p = let h = rows.over-put 64 2 record_key blank_record record_of record_numbers Clean InRange codec t.keys (t.lengths ∷ []) t.count (table-sound t w) e r i p in
      record { formed = sound-formed (in_columns t.keys (set t.lengths i e.relay_count) t.count) h.0; rows = h.1 }

  pub put_in : (e : RecordEntry) → InRange e → (i : ℕ) → Err i ≡ place_of (take t.count t.keys) (record_key e) → t.count < 64
      → Holds (in_columns (shift_in i (record_key e) t.keys) (shift_in i e.relay_count t.lengths) (t.count + 1)) (put record_key e (rows_of t))
  put_in e r i p l = let h = rows.in-put 64 2 record_key blank_record record_of record_numbers Clean InRange codec t.keys (t.lengths ∷ []) t.count (table-sound t w) e r i p l in
      record { formed = sound-formed (in_columns (shift_in i (record_key e) t.keys) (shift_in i e.relay_count t.lengths) (t.count + 1)) h.0; rows = h.1 }

  pub taken_out : (k i : ℕ) → Ok i ≡ place_of (take t.count t.keys) k
      → Holds (in_columns (shift_out i 0 t.keys) (shift_out i 0 t.lengths) (t.count - 1)) (remove record_key k (rows_of t))
  taken_out k i p = let h = rows.out-key 64 2 record_key blank_record record_of record_numbers Clean InRange codec t.keys (t.lengths ∷ []) t.count (table-sound t w) i k p in
      record { formed = sound-formed (in_columns (shift_out i 0 t.keys) (shift_out i 0 t.lengths) (t.count - 1)) h.0; rows = h.1 }

-- the table of entries that fit, each with few relays, is well formed, and they are its entries
module _ (xs : List RecordEntry) (f : Fits xs) where
  in-range : (i : ℕ) → i < length xs → InRange (get_or xs i blank_record)
  in-range = each_at InRange blank_record xs (length xs) (omega arith) (rw (take_all (length xs) xs (omega arith)) f.ranged)

  pub table-formed : WellFormed (table_of xs)
  unfolding table_of
  table-formed = sound-formed (table_of xs) (view.made-sound 64 2 record_key blank_record record_of record_numbers Clean InRange codec xs f.fit in-range 1 refl)

  pub table-rows : rows_of (table_of xs) ≡ xs
  unfolding table_of
  table-rows = view.made-rows 64 2 record_key blank_record record_of record_numbers Clean InRange codec xs f.fit in-range 1 refl

  -- and what each step leaves of them fits
  pub fits-put : (e : RecordEntry) → InRange e → count_with record_key (record_key e) xs ≤ 64 → Fits (put record_key e xs)
  fits-put e r room = record { fit = fit-put 64 record_key blank_record xs f.fit e room; ranged = each-put InRange record_key e xs r f.ranged }

  pub fits-remove : (k : ℕ) → Fits (remove record_key k xs)
  fits-remove k = record { fit = fit-remove 64 record_key blank_record xs f.fit k; ranged = each-remove InRange record_key k xs f.ranged }

  pub fits-keep : (p : RecordEntry → Bool) → Fits (keep p xs)
  fits-keep p = record { fit = fit-keep 64 record_key blank_record xs f.fit p; ranged = each_keep InRange p xs f.ranged }

  pub fits-map : (g : RecordEntry → RecordEntry) → ((x : RecordEntry) → record_key (g x) ≡ record_key x) → ((x : RecordEntry) → InRange x → InRange (g x)) → Fits (map g xs)
  fits-map g same range = record { fit = fit-map 64 record_key blank_record xs f.fit g same; ranged = go xs f.ranged } where
    go : (ys : List RecordEntry) → Each InRange ys → Each InRange (map g ys)
    go [] e = tt
    go (y ∷ ys) e = (range y e.0, go ys e.1)
