-- The discovery table under the laws of columns: a well-formed table is its discoveries laid into columns, and discoveries that fit,
-- laid into columns, are a well-formed table; the computed test tells it, and the place of a pair tells its row.
use Rattle.std.specs.Prelude.{Option, Some, None, Ok, Err}
use Prim.Native.Nat.{ℕ, zero, suc, ◌+◌, ◌<◌, ◌≤◌}
use native.Mathlib.Nat.{le_of_suc-le-suc, not-suc-le-zero}
use native.Mathlib.Omega.{arith}
use mathlib.Core.Bool.{Bool, ◌&&◌}
use mathlib.Core.List.{List, [], ◌∷◌, map}
use mathlib.Core.Path.{◌≡◌, refl, sym, ap, ◌∙◌, subst}
use lib.ListN.{length, take, drop, get_or, set}
use Rattle.standard.specs.declared.DiscoveryEntry.{DiscoveryEntry}
use Rattle.standard.specs.Discovery.{discovery_key}
use Rattle.standard.specs.Ordered.{lookup, put, remove, count_with, keep}
use Rattle.standard.specs.Query.{entry_at}
use Rattle.standard.specs.Tells.{Tells}
use Rattle.standard.proofs.Tells.{tells_both, tells-so}
use Rattle.flat_map.specs.Seek.{place_of}
use Rattle.flat_map.specs.Shift.{shift_in}
use Rattle.flat_map.specs.Table.{Each, Rising, ZeroFrom}
use Rattle.flat_map.proofs.Each.{each_placed, each-put, each-remove, each_keep}
use Rattle.flat_map.proofs.Fits as fits
use Rattle.flat_map.proofs.Ordered.{count-with-missing}
use Rattle.flat_map.proofs.Query as query
use Rattle.flat_map.proofs.Table as table
use Rattle.columns.specs.Columns.{at, entries, Long, Ordered, Under}
use Rattle.columns.specs.Table as columns
use Rattle.columns.specs.Table.{Sound}
use Rattle.columns.proofs.Places.{entries-length}
use Rattle.columns.proofs.Rows as rows
use Rattle.columns.proofs.Told.{ordered-told, under-told}
use Rattle.columns.proofs.View as view
use Rattle.discovery_table.specs.Codec.{word_end, key_end, discovery_word, discovery_numbers, discovery_in, discovery_of, Clean, InRange}
use Rattle.discovery_table.specs.Table.{DiscoveryTable, in_columns, blank_discovery, WellFormed, well_formed, rows_of, table_of, Fits, Holds}
use Rattle.discovery_table.proofs.Codec.{codec}

-- a well-formed table is sound columns, and back
pub table-sound : (t : DiscoveryTable) → WellFormed t → Sound 32 3 Clean t.keys (t.words ∷ t.ends ∷ []) t.count
table-sound t w = record { wide = refl; ordered = w.ordered; clean = λ i. record { key = w.pairs i; word = w.fields i } }

pub sound-formed : (t : DiscoveryTable) → Sound 32 3 Clean t.keys (t.words ∷ t.ends ∷ []) t.count → WellFormed t
sound-formed t s = record { ordered = s.ordered; pairs = λ i. (s.clean i).key; fields = λ i. (s.clean i).word }

pub holds : (t : DiscoveryTable) (xs : List DiscoveryEntry) → Sound 32 3 Clean t.keys (t.words ∷ t.ends ∷ []) t.count → rows_of t ≡ xs → Holds t xs
holds t xs s e = record { formed = sound-formed t s; rows = e }

-- the same of columns that are equal
pub holds_as : (ks ws us ks' ws' us' : List ℕ) (n : ℕ) (xs : List DiscoveryEntry) → ks' ≡ ks → ws' ≡ ws → us' ≡ us → Holds (in_columns ks ws us n) xs → Holds (in_columns ks' ws' us' n) xs
holds_as ks ws us ks' ws' us' n xs p q r h = subst (λ (t : DiscoveryTable). Holds t xs) (sym (λ z. in_columns (p z) (q z) (r z) n)) h

-- the computed test tells it
pub well-formed-told : (t : DiscoveryTable) → Tells (WellFormed t) (well_formed t)
well-formed-told t =
    tells-so there back
    (tells_both (ordered-told 32 t.keys (t.words ∷ t.ends ∷ []) t.count)
    (tells_both (under-told key_end (omega arith) t.keys) (under-told word_end (omega arith) t.words))) where
      there : Ordered 32 t.keys (t.words ∷ t.ends ∷ []) t.count × (Under key_end t.keys × Under word_end t.words) → WellFormed t
      there p = record { ordered = p.0; pairs = p.1.0; fields = p.1.1 }

      back : WellFormed t → Ordered 32 t.keys (t.words ∷ t.ends ∷ []) t.count × (Under key_end t.keys × Under word_end t.words)
      back w = (w.ordered, (w.pairs, w.fields))

-- and so do the tests of the columns together
module _ (keys words ends : List ℕ) (count : ℕ) where
  abbrev Tested : Type 0
  Tested = ((((Rising keys count × ZeroFrom keys count) × ZeroFrom words count) × ZeroFrom ends count) × Under key_end keys) × Under word_end words

  there : Long 32 (keys ∷ words ∷ ends ∷ []) → count ≤ 32 → Tested → WellFormed (in_columns keys words ends count)
  there l m (((((up, zk), zw), zu), pairs), fields) = record { ordered = record { long = l; small = m; rising = up; zeros = (zk, (zw, (zu, tt))) }; pairs = pairs; fields = fields }

  back : WellFormed (in_columns keys words ends count) → Tested
  back w = (((((w.ordered.rising, w.ordered.zeros.0), w.ordered.zeros.1.0), w.ordered.zeros.1.1.0), w.pairs), w.fields)

  pub columns-told : Long 32 (keys ∷ words ∷ ends ∷ []) → count ≤ 32 → {a b c d e f : Bool}
      → Tells (Rising keys count) a → Tells (ZeroFrom keys count) b → Tells (ZeroFrom words count) c → Tells (ZeroFrom ends count) d → Tells (Under key_end keys) e → Tells (Under word_end words) f
      → Tells (WellFormed (in_columns keys words ends count)) (((((a && b) && c) && d) && e) && f)
  columns-told l m ta tb tc td te tf = tells-so (there l m) back (tells_both (tells_both (tells_both (tells_both (tells_both ta tb) tc) td) te) tf)

-- a property of each row, row by row
each_row : (P : DiscoveryEntry → Type 0) (xs : List DiscoveryEntry) → Each P xs → (i : ℕ) → i < length xs → P (get_or xs i blank_discovery)
each_row P [] e i h = absurd (not-suc-le-zero h)
each_row P (x ∷ xs) e zero h = e.0
each_row P (x ∷ xs) e (suc i) h = each_row P xs e.1 i (le_of_suc-le-suc h)

each_map : (P : DiscoveryEntry → Type 0) (f : DiscoveryEntry → DiscoveryEntry) → ((x : DiscoveryEntry) → P x → P (f x)) → (xs : List DiscoveryEntry) → Each P xs → Each P (map f xs)
each_map P f h [] e = tt
each_map P f h (x ∷ xs) e = (h x e.0, each_map P f h xs e.1)

module _ (t : DiscoveryTable) (w : WellFormed t) where
  abbrev others : List (List ℕ)
  others = t.words ∷ t.ends ∷ []

  abbrev es : List DiscoveryEntry
  es = entries discovery_of 32 (t.keys ∷ others)

  -- the discovery in place i
  abbrev row : ℕ → DiscoveryEntry
  row i = discovery_in (get_or t.keys i 0) (get_or t.words i 0) (get_or t.ends i 0)

  pub many : length (rows_of t) ≡ t.count
  many = rows.rows-many 32 3 discovery_key blank_discovery discovery_of discovery_numbers Clean InRange codec t.keys others t.count (table-sound t w)

  row_reads : (i : ℕ) → get_or es i blank_discovery ≡ row i
  row_reads i = rows.row_reads 32 3 discovery_key blank_discovery discovery_of discovery_numbers Clean InRange codec t.keys others t.count (table-sound t w) i

  -- it is the table of its rows, and these fit
  pub table-view : t ≡ table_of (rows_of t)
  unfolding table_of
  table-view = λ z. record { keys = column 0 (omega arith) z; words = column 1 (omega arith) z; ends = column 2 (omega arith) z; count = sym many z } where
    column : (m : ℕ) → m < 3 → get_or (t.keys ∷ others) m [] ≡ columns.column discovery_numbers 32 (rows_of t) m
    column m h = view.column-is 32 3 discovery_key blank_discovery discovery_of discovery_numbers Clean InRange codec t.keys others t.count (table-sound t w) m h

  pub table-fit : Fits (rows_of t)
  table-fit = record {
    fit = rows.rows_fit 32 3 discovery_key blank_discovery discovery_of discovery_numbers Clean InRange codec t.keys others t.count (table-sound t w);
    ranged =
        each_placed InRange blank_discovery es t.count (omega (arith, entries-length discovery_of 32 (t.keys ∷ others), w.ordered.small))
        (λ i h. subst InRange (sym (row_reads i)) (codec.within (at i (t.keys ∷ others)) ((table-sound t w).clean i)));
  }

  -- what the place of a key says of the rows
  pub found-row : (k i : ℕ) → Ok i ≡ place_of (take t.count t.keys) k → lookup discovery_key k (rows_of t) ≡ Some (row i)
  found-row k i p = rows.found 32 3 discovery_key blank_discovery discovery_of discovery_numbers Clean InRange codec t.keys others t.count (table-sound t w) k i p

  pub missing-row : (k i : ℕ) → Err i ≡ place_of (take t.count t.keys) k → lookup discovery_key k (rows_of t) ≡ None
  missing-row k i p = rows.missing 32 3 discovery_key blank_discovery discovery_of discovery_numbers Clean InRange codec t.keys others t.count (table-sound t w) k i p

  pub place-within : (k i : ℕ) → Ok i ≡ place_of (take t.count t.keys) k → i < t.count
  place-within k i p = rows.found_below 32 3 discovery_key blank_discovery discovery_of discovery_numbers Clean InRange codec t.keys others t.count (table-sound t w) k i p

  pub missing-within : (k i : ℕ) → Err i ≡ place_of (take t.count t.keys) k → i ≤ t.count
  missing-within k i p =
      table.missing-within 32 discovery_key blank_discovery t.keys es t.count
      (rows.table 32 3 discovery_key blank_discovery discovery_of discovery_numbers Clean InRange codec t.keys others t.count (table-sound t w)) k i p

  -- a missing key whose row fits has a free place
  pub room-left : (k i : ℕ) → Err i ≡ place_of (take t.count t.keys) k → count_with discovery_key k (rows_of t) ≤ 32 → t.count < 32
  room-left k i p h = omega (arith, h, many, count-with-missing discovery_key k (rows_of t) (missing-row k i p))

  -- the rows gone through one after the other
  pub next_row : (i : ℕ) → i < t.count → drop i (rows_of t) ≡ row i ∷ drop (i + 1) (rows_of t)
  next_row i h =
      query.next_row 32 discovery_key blank_discovery t.keys es t.count
      (rows.table 32 3 discovery_key blank_discovery discovery_of discovery_numbers Clean InRange codec t.keys others t.count (table-sound t w)) i h
      ∙ ap (λ (d : DiscoveryEntry). d ∷ drop (i + 1) (rows_of t)) (row_reads i)

  pub no_row : (i : ℕ) → t.count ≤ i → drop i (rows_of t) ≡ []
  no_row i h = query.rest-done (rows_of t) i (omega (arith, many))

  -- the row at a place
  pub entry-in-use : (i : ℕ) → i < t.count → entry_at i (rows_of t) ≡ Some (row i)
  entry-in-use i h =
      query.entry-in-use 32 discovery_key blank_discovery t.keys es t.count
      (rows.table 32 3 discovery_key blank_discovery discovery_of discovery_numbers Clean InRange codec t.keys others t.count (table-sound t w)) i h
      ∙ ap Some (row_reads i)

  pub entry-not-in-use : (i : ℕ) → t.count ≤ i → entry_at i (rows_of t) ≡ None
  entry-not-in-use i h = query.entry_past blank_discovery (rows_of t) i (omega (arith, many))

  -- a discovery over the one of its pair, or put in
  pub set_holds : (e : DiscoveryEntry) → InRange e → (i : ℕ) → Ok i ≡ place_of (take t.count t.keys) (discovery_key e)
      → Holds (in_columns t.keys (set t.words i (discovery_word e)) (set t.ends i e.expiration_time) t.count) (put discovery_key e (rows_of t))
  set_holds e r i p =
      let x = rows.over-put 32 3 discovery_key blank_discovery discovery_of discovery_numbers Clean InRange codec t.keys others t.count (table-sound t w) e r i p in
      holds _ _ x.0 x.1

  pub insert-holds : (e : DiscoveryEntry) → InRange e → (i : ℕ) → Err i ≡ place_of (take t.count t.keys) (discovery_key e) → t.count < 32
      → Holds (in_columns (shift_in i (discovery_key e) t.keys) (shift_in i (discovery_word e) t.words) (shift_in i e.expiration_time t.ends) (t.count + 1)) (put discovery_key e (rows_of t))
  insert-holds e r i p h =
      let x = rows.in-put 32 3 discovery_key blank_discovery discovery_of discovery_numbers Clean InRange codec t.keys others t.count (table-sound t w) e r i p h in
      holds _ _ x.0 x.1

-- the table of rows that fit is well formed, and they are its rows
module _ (xs : List DiscoveryEntry) (f : Fits xs) where
  pub table-formed : WellFormed (table_of xs)
  unfolding table_of
  table-formed =
      sound-formed (table_of xs)
      (view.made-sound 32 3 discovery_key blank_discovery discovery_of discovery_numbers Clean InRange codec xs f.fit (each_row InRange xs f.ranged) 2 refl)

  pub table-rows : rows_of (table_of xs) ≡ xs
  unfolding table_of
  table-rows = view.made-rows 32 3 discovery_key blank_discovery discovery_of discovery_numbers Clean InRange codec xs f.fit (each_row InRange xs f.ranged) 2 refl

  -- what a step leaves fits
  pub fits-put : (e : DiscoveryEntry) → InRange e → count_with discovery_key (discovery_key e) xs ≤ 32 → Fits (put discovery_key e xs)
  fits-put e r room = record { fit = fits.fit-put 32 discovery_key blank_discovery xs f.fit e room; ranged = each-put InRange discovery_key e xs r f.ranged }

  pub fits-remove : (k : ℕ) → Fits (remove discovery_key k xs)
  fits-remove k = record { fit = fits.fit-remove 32 discovery_key blank_discovery xs f.fit k; ranged = each-remove InRange discovery_key k xs f.ranged }

  pub fits-keep : (p : DiscoveryEntry → Bool) → Fits (keep p xs)
  fits-keep p = record { fit = fits.fit-keep 32 discovery_key blank_discovery xs f.fit p; ranged = each_keep InRange p xs f.ranged }

  pub fits-map : (g : DiscoveryEntry → DiscoveryEntry) → ((x : DiscoveryEntry) → discovery_key (g x) ≡ discovery_key x) → ((x : DiscoveryEntry) → InRange x → InRange (g x)) → Fits (map g xs)
  fits-map g same r = record { fit = fits.fit-map 32 discovery_key blank_discovery xs f.fit g same; ranged = each_map InRange g r xs f.ranged }

-- a look-up's answer, read back
pub looked-found : (o : Option DiscoveryEntry) (e : DiscoveryEntry) → Some e ≡ o → o ≡ Some e
looked-found None e q = absurd (let z : ◌≡◌ {A = ℕ} 0 1 = cc in omega arith)
looked-found (Some x) e q = cc

pub looked-missing : (o : Option DiscoveryEntry) → None ≡ o → o ≡ None
looked-missing None q = refl
looked-missing (Some x) q = absurd (let z : ◌≡◌ {A = ℕ} 0 1 = cc in omega arith)
