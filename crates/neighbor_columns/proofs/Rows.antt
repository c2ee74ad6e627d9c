-- The neighbour table under the laws of columns: the tests tell, a table is the table of its rows, the place of a key is a look-up, and a row
-- stored over that of its key, put in or taken out is the same step on the rows. Rows that fit still fit after each step.
use Rattle.std.specs.Prelude.{Option, Some, None, Result, Ok, Err}
use Prim.Native.Nat.{ℕ, zero, suc, ◌+◌, ◌-◌, ◌<◌, ◌≤◌}
use native.Mathlib.Omega.{arith}
use mathlib.Core.Bool.{Bool, true, false, true≢false, false≢true}
use mathlib.Core.List.{List, [], ◌∷◌, map}
use mathlib.Core.Path.{◌≡◌, refl, sym, ap, ◌∙◌, subst}
use lib.Dec.{leb}
use lib.ListN.{length, take, drop, get_or}
use lib.Seq.{take-length}
use Rattle.standard.specs.Ordered.{lookup, put, remove, keep, count_with}
use Rattle.standard.specs.Query.{entry_at, first}
use Rattle.standard.specs.Rows.{put_back}
use Rattle.standard.specs.Tells.{Tells}
use Rattle.standard.proofs.Tells.{yes-so, tells-lt, tells-true, tells_both, tells-so}
use Rattle.flat_map.specs.Rows.{remove_at}
use Rattle.flat_map.specs.Seek.{place_of}
use Rattle.flat_map.specs.Table.{Each, Formed, Rising, every}
use Rattle.flat_map.proofs.Each.{each_placed, each_at, each-put, each-remove, each_keep}
use Rattle.flat_map.proofs.Every.{every-at, every-put, every-remove, every-keep, every_map}
use Rattle.flat_map.proofs.Fits as flat-fits
use Rattle.flat_map.proofs.Ordered.{count-with-missing}
use Rattle.flat_map.proofs.Query.{entry-in-use, entry-not-in-use, next_row, no_row, first-at, first-none}
use Rattle.flat_map.proofs.Table as flat
use Rattle.columns.specs.Columns.{entries, Ordered}
use Rattle.columns.specs.Room.{room_for}
use Rattle.columns.specs.Table.{Sound}
use Rattle.columns.proofs.Places.{entries-length}
use Rattle.columns.proofs.Rows as rows
use Rattle.columns.proofs.Told.{ordered-told}
use Rattle.columns.proofs.View as view
use Rattle.neighbor_columns.specs.declared.LinkPart.{LinkPart}
use Rattle.neighbor_columns.specs.declared.CountsPart.{CountsPart}
use Rattle.neighbor_table.specs.declared.NeighborEntry.{NeighborEntry}
use Rattle.neighbor_table.specs.Entry.{neighbor_key, blank_neighbor, is_sound}
use Rattle.neighbor_columns.specs.Codec.{part_sound}
use Rattle.neighbor_columns.specs.Codec.{neighbor_from, neighbor_of, neighbor_numbers, CleanLink, Clean, InRange}
use Rattle.neighbor_columns.specs.Table.{NeighborTable, in_columns, others, rows_of, row_at, InPlaces, table_of, CleanLinks, clean_link, Formed64, formed64, WellFormed, well_formed, Fits, FitRows, Keeps, Holds, replaced, inserted, removed}
use Rattle.neighbor_columns.proofs.Codec.{codec, zero-clean, read-in-range}

-- the test of a link word, of all of them, and of a table
pub clean-told : (w : ℕ) → Tells (CleanLink w) (clean_link w)
clean-told w = tells-so (λ p. record { device = p.0; relation = p.1 }) (λ c. (c.device, c.relation)) (tells_both (tells-lt _ 3) (tells-lt _ 10))

links-told : (xs : List ℕ) → Tells (CleanLinks xs) (every clean_link xs)
links-told [] = yes-so (λ i. zero-clean)
links-told (x ∷ xs) = tells-so all parts (tells_both (clean-told x) (links-told xs)) where
  all : CleanLink x × CleanLinks xs → CleanLinks (x ∷ xs)
  all p zero = p.0
  all p (suc i) = p.1 i

  parts : CleanLinks (x ∷ xs) → CleanLink x × CleanLinks xs
  parts u = (u zero, λ i. u (suc i))

pub formed-told : (t : NeighborTable) → Tells (Formed64 t) (formed64 t)
unfolding formed64
formed-told t =
    tells-so (λ p. record { ordered = p.0; clean = p.1 }) (λ f. (f.ordered, f.clean))
    (tells_both (ordered-told 64 t.keys (others t) t.count) (links-told t.links))

pub well-formed-told : (t : NeighborTable) → Tells (WellFormed t) (well_formed t)
well-formed-told t =
    tells-so (λ p. record { formed = p.0; sound = p.1 }) (λ w. (w.formed, w.sound))
    (tells_both (formed-told t) (tells-true (every is_sound (rows_of t))))

-- as columns of `columns`, and back
pub table-sound : (t : NeighborTable) → Formed64 t → Sound 64 10 Clean t.keys (others t) t.count
table-sound t f = record { wide = refl; ordered = f.ordered; clean = f.clean }

pub sound-formed : (t : NeighborTable) → Sound 64 10 Clean t.keys (others t) t.count → Formed64 t
sound-formed t s = record { ordered = s.ordered; clean = s.clean }

-- what an entry's soundness reads is the part in its link word
pub sound-part : (key nwk : ℕ) (p : LinkPart) (c : CountsPart) (deadline period heard added beacon bytes : ℕ)
    → is_sound (neighbor_from key nwk p c deadline period heard added beacon bytes) ≡ part_sound p
unfolding is_sound part_sound neighbor_from
sound-part key nwk p c deadline period heard added beacon bytes = refl

-- a table whose rows are sound is well formed
pub keeps-holds : (t : NeighborTable) (xs : List NeighborEntry) → Keeps t xs → every is_sound xs ≡ true → Holds t xs
keeps-holds t xs k s = record { formed = record { formed = k.formed; sound = ap (every is_sound) k.rows ∙ s }; rows = k.rows }

pub holds-keeps : (t : NeighborTable) (xs : List NeighborEntry) → Holds t xs → Keeps t xs
holds-keeps t xs h = record { formed = h.formed.formed; rows = h.rows }

-- rows in a table
module _ (t : NeighborTable) (f : Formed64 t) where
  -- as a table of flat_map
  flat-table : Formed 64 neighbor_key blank_neighbor t.keys (entries neighbor_of 64 (t.keys ∷ others t)) t.count
  flat-table = rows.table 64 10 neighbor_key blank_neighbor neighbor_of neighbor_numbers Clean InRange codec t.keys (others t) t.count (table-sound t f)

  pub many : length (rows_of t) ≡ t.count
  many = rows.rows-many 64 10 neighbor_key blank_neighbor neighbor_of neighbor_numbers Clean InRange codec t.keys (others t) t.count (table-sound t f)

  pub row_reads : (i : ℕ) → get_or (entries neighbor_of 64 (t.keys ∷ others t)) i blank_neighbor ≡ row_at t i
  row_reads = rows.row_reads 64 10 neighbor_key blank_neighbor neighbor_of neighbor_numbers Clean InRange codec t.keys (others t) t.count (table-sound t f)

  -- the keys as a look-up asks for them, and columns that are lent together
  pub keys-ready : (t.count ≤ length t.keys) × Rising t.keys t.count
  keys-ready = (omega (arith, f.ordered.small, f.ordered.long.0), f.ordered.rising)

  pub links-ready : Ordered 64 t.keys (t.links ∷ []) t.count
  links-ready = record {
    long = (f.ordered.long.0, (f.ordered.long.1.1.0, tt));
    small = f.ordered.small;
    rising = f.ordered.rising;
    zeros = (f.ordered.zeros.0, (f.ordered.zeros.1.1.0, tt));
  }

  pub counts-ready : Ordered 64 t.keys (t.counts ∷ []) t.count
  counts-ready = record {
    long = (f.ordered.long.0, (f.ordered.long.1.1.1.0, tt));
    small = f.ordered.small;
    rising = f.ordered.rising;
    zeros = (f.ordered.zeros.0, (f.ordered.zeros.1.1.1.0, tt));
  }

  pub seen-ready : Ordered 64 t.keys (t.nwks ∷ t.links ∷ []) t.count
  seen-ready = record {
    long = (f.ordered.long.0, (f.ordered.long.1.0, (f.ordered.long.1.1.0, tt)));
    small = f.ordered.small;
    rising = f.ordered.rising;
    zeros = (f.ordered.zeros.0, (f.ordered.zeros.1.0, (f.ordered.zeros.1.1.0, tt)));
  }

  -- a place in use is in every column
  pub in-places : (i : ℕ) → i < t.count → InPlaces i t
  in-places i h = (omega (arith, f.ordered.small, f.ordered.long.0), omega (arith, f.ordered.small, f.ordered.long.1.0), omega (arith, f.ordered.small, f.ordered.long.1.1.0), omega (arith, f.ordered.small, f.ordered.long.1.1.1.0), omega (arith, f.ordered.small, f.ordered.long.1.1.1.1.0), omega (arith, f.ordered.small, f.ordered.long.1.1.1.1.1.0), omega (arith, f.ordered.small, f.ordered.long.1.1.1.1.1.1.0), omega (arith, f.ordered.small, f.ordered.long.1.1.1.1.1.1.1.0), omega (arith, f.ordered.small, f.ordered.long.1.1.1.1.1.1.1.1.0), omega (arith, f.ordered.small, f.ordered.long.1.1.1.1.1.1.1.1.1.0))

  -- the table is that of its rows
  pub table-view : t ≡ table_of (rows_of t)
  unfolding table_of
  table-view =
      let column-is = view.column-is 64 10 neighbor_key blank_neighbor neighbor_of neighbor_numbers Clean InRange codec t.keys (others t) t.count (table-sound t f) in
      λ z. in_columns (column-is 0 (omega arith) z) (column-is 1 (omega arith) z) (column-is 2 (omega arith) z) (column-is 3 (omega arith) z) (column-is 4 (omega arith) z)
      (column-is 5 (omega arith) z) (column-is 6 (omega arith) z) (column-is 7 (omega arith) z) (column-is 8 (omega arith) z) (column-is 9 (omega arith) z) (sym many z)

  pub rows-fits : Fits (rows_of t)
  rows-fits = record {
    fit = rows.rows_fit 64 10 neighbor_key blank_neighbor neighbor_of neighbor_numbers Clean InRange codec t.keys (others t) t.count (table-sound t f);
    ranged =
        each_placed InRange blank_neighbor (entries neighbor_of 64 (t.keys ∷ others t)) t.count
        (omega (arith, f.ordered.small, entries-length neighbor_of 64 (t.keys ∷ others t)))
        (λ i h. subst InRange (sym (row_reads i)) (read-in-range _ _ _ _ _ _ _ _ _ _));
  }

  -- what stands in a place
  pub row-at : (i : ℕ) → i < t.count → get_or (rows_of t) i blank_neighbor ≡ row_at t i
  row-at = view.row_is 64 10 neighbor_key blank_neighbor neighbor_of neighbor_numbers Clean InRange codec t.keys (others t) t.count (table-sound t f)

  pub row-in-use : (i : ℕ) → i < t.count → entry_at i (rows_of t) ≡ Some (row_at t i)
  row-in-use i h = entry-in-use 64 neighbor_key blank_neighbor t.keys (entries neighbor_of 64 (t.keys ∷ others t)) t.count flat-table i h ∙ ap Some (row_reads i)

  pub row-not-in-use : (i : ℕ) → t.count ≤ i → entry_at i (rows_of t) ≡ None
  row-not-in-use i h = entry-not-in-use 64 neighbor_key blank_neighbor t.keys (entries neighbor_of 64 (t.keys ∷ others t)) t.count flat-table i h

  pub sound-row : every is_sound (rows_of t) ≡ true → (i : ℕ) → i < t.count → is_sound (row_at t i) ≡ true
  sound-row s i h = ap is_sound (sym (row-at i h)) ∙ every-at is_sound (rows_of t) i blank_neighbor s (omega (arith, h, many))

  -- a loop takes the next row off the rest, until there is none
  pub next-read : (i : ℕ) → i < t.count → drop i (rows_of t) ≡ row_at t i ∷ drop (i + 1) (rows_of t)
  next-read i h =
      next_row 64 neighbor_key blank_neighbor t.keys (entries neighbor_of 64 (t.keys ∷ others t)) t.count flat-table i h
      ∙ ap (λ (e : NeighborEntry). e ∷ drop (i + 1) (rows_of t)) (row_reads i)

  pub none_left : (i : ℕ) → t.count ≤ i → drop i (rows_of t) ≡ []
  none_left i h = no_row 64 neighbor_key blank_neighbor t.keys (entries neighbor_of 64 (t.keys ∷ others t)) t.count flat-table i h

  -- the first place whose row fits
  module _ (fits : NeighborEntry → Bool) where
    before : (i : ℕ) → i ≤ t.count → ((j : ℕ) → j < i → fits (row_at t j) ≡ false) → (j : ℕ) → j < i → fits (get_or (rows_of t) j blank_neighbor) ≡ false
    before i h b j l = ap fits (row-at j (omega arith)) ∙ b j l

    pub first-row : (i : ℕ) → i < t.count → ((j : ℕ) → j < i → fits (row_at t j) ≡ false) → fits (row_at t i) ≡ true → first fits (rows_of t) ≡ Some (row_at t i)
    first-row i h b q =
        first-at fits blank_neighbor (rows_of t) i (omega (arith, h, many)) (before i (omega arith) b) (ap fits (row-at i h) ∙ q) ∙ ap Some (row-at i h)

    pub first-no-row : ((j : ℕ) → j < t.count → fits (row_at t j) ≡ false) → first fits (rows_of t) ≡ None
    first-no-row b = first-none fits blank_neighbor (rows_of t) (λ j l. before t.count (omega arith) b j (omega (arith, l, many)))

  -- what the place of an address says of the rows
  module _ (k i : ℕ) where
    pub place-within : Ok i ≡ place_of (take t.count t.keys) k → i < t.count
    place-within = rows.found_below 64 10 neighbor_key blank_neighbor neighbor_of neighbor_numbers Clean InRange codec t.keys (others t) t.count (table-sound t f) k i

    pub found-key : Ok i ≡ place_of (take t.count t.keys) k → get_or t.keys i 0 ≡ k
    found-key = rows.found-key 64 10 neighbor_key blank_neighbor neighbor_of neighbor_numbers Clean InRange codec t.keys (others t) t.count (table-sound t f) k i

    pub found-row : Ok i ≡ place_of (take t.count t.keys) k → lookup neighbor_key k (rows_of t) ≡ Some (row_at t i)
    found-row = rows.found 64 10 neighbor_key blank_neighbor neighbor_of neighbor_numbers Clean InRange codec t.keys (others t) t.count (table-sound t f) k i

    pub missing-row : Err i ≡ place_of (take t.count t.keys) k → lookup neighbor_key k (rows_of t) ≡ None
    missing-row = rows.missing 64 10 neighbor_key blank_neighbor neighbor_of neighbor_numbers Clean InRange codec t.keys (others t) t.count (table-sound t f) k i

    pub missing-within : Err i ≡ place_of (take t.count t.keys) k → i ≤ t.count
    missing-within = flat.missing-within 64 neighbor_key blank_neighbor t.keys (entries neighbor_of 64 (t.keys ∷ others t)) t.count flat-table k i

    -- an address that is missing and has room has a free place
    pub free : Err i ≡ place_of (take t.count t.keys) k → count_with neighbor_key k (rows_of t) ≤ 64 → t.count < 64
    free p room = omega (arith, room, many, count-with-missing neighbor_key k (rows_of t) (missing-row p))

  pub own-place : (i : ℕ) → i < t.count → Ok i ≡ place_of (take t.count t.keys) (get_or t.keys i 0)
  own-place = rows.own-place 64 10 neighbor_key blank_neighbor neighbor_of neighbor_numbers Clean InRange codec t.keys (others t) t.count (table-sound t f)

  pub room-told : (k : ℕ) (p : Result ℕ ℕ) → p ≡ place_of (take t.count t.keys) k → leb (count_with neighbor_key k (rows_of t)) 64 ≡ room_for p t.count 64
  room-told = rows.room-told 64 10 neighbor_key blank_neighbor neighbor_of neighbor_numbers Clean InRange codec t.keys (others t) t.count (table-sound t f)

  -- a neighbour that is there has its place
  pub room-for : (k : ℕ) (e : NeighborEntry) → lookup neighbor_key k (rows_of t) ≡ Some e → count_with neighbor_key k (rows_of t) ≤ 64
  room-for k e h = flat-fits.room-known 64 neighbor_key blank_neighbor (rows_of t) rows-fits.fit k e h

  -- a row stored over that of its address, and put in where there is none
  module _ (e : NeighborEntry) (r : InRange e) (i : ℕ) where
    pub stored-over : Ok i ≡ place_of (take t.count t.keys) (neighbor_key e) → Keeps (replaced t i e) (put neighbor_key e (rows_of t))
    stored-over p =
        let h = rows.over-put 64 10 neighbor_key blank_neighbor neighbor_of neighbor_numbers Clean InRange codec t.keys (others t) t.count (table-sound t f) e r i p in
        record { formed = sound-formed (replaced t i e) h.0; rows = h.1 }

    pub put_in : Err i ≡ place_of (take t.count t.keys) (neighbor_key e) → t.count < 64 → Keeps (inserted t i e) (put neighbor_key e (rows_of t))
    put_in p l =
        let h = rows.in-put 64 10 neighbor_key blank_neighbor neighbor_of neighbor_numbers Clean InRange codec t.keys (others t) t.count (table-sound t f) e r i p l in
        record { formed = sound-formed (inserted t i e) h.0; rows = h.1 }

  -- a row taken out, by its address or by its place, and one that is not there
  pub taken_out : (k i : ℕ) → Ok i ≡ place_of (take t.count t.keys) k → Keeps (removed t i) (remove neighbor_key k (rows_of t))
  taken_out k i p =
      let h = rows.out-key 64 10 neighbor_key blank_neighbor neighbor_of neighbor_numbers Clean InRange codec t.keys (others t) t.count (table-sound t f) i k p in
      record { formed = sound-formed (removed t i) h.0; rows = h.1 }

  pub taken_at : (i : ℕ) → i < t.count → Keeps (removed t i) (remove_at i (rows_of t))
  taken_at i l =
      let h = rows.out_at 64 10 neighbor_key blank_neighbor neighbor_of neighbor_numbers Clean InRange codec t.keys (others t) t.count (table-sound t f) i l in
      record { formed = sound-formed (removed t i) h.0; rows = h.1 }

  pub none_out : (k i : ℕ) → Err i ≡ place_of (take t.count t.keys) k → Keeps t (remove neighbor_key k (rows_of t))
  none_out k i p = record { formed = f; rows = sym (flat.remove_absent neighbor_key blank_neighbor k (rows_of t) (missing-row k i p)) }

pub table-fit : (t : NeighborTable) → WellFormed t → FitRows (rows_of t)
table-fit t w = record { fits = rows-fits t w.formed; sound = w.sound }

-- a well-formed table is well formed after a step that stores a sound row, or that takes rows out
pub put_holds : (t u : NeighborTable) (e : NeighborEntry) → WellFormed t → is_sound e ≡ true → Keeps u (put neighbor_key e (rows_of t)) → Holds u (put neighbor_key e (rows_of t))
put_holds t u e w s k = keeps-holds u (put neighbor_key e (rows_of t)) k (every-put is_sound neighbor_key e (rows_of t) s w.sound)

pub remove-holds : (t u : NeighborTable) (k : ℕ) → WellFormed t → Keeps u (remove neighbor_key k (rows_of t)) → Holds u (remove neighbor_key k (rows_of t))
remove-holds t u k w h = keeps-holds u (remove neighbor_key k (rows_of t)) h (every-remove is_sound neighbor_key k (rows_of t) w.sound)

-- a row that was found, changed by g and put back: the store of what g makes of it, which has to be sound; and where none was found
module _ (t : NeighborTable) (w : WellFormed t) (g : NeighborEntry → NeighborEntry) (o : Option NeighborEntry) where
  pub changed-holds : (u : NeighborTable) (i : ℕ) (e : NeighborEntry) → o ≡ Some (row_at t i) → e ≡ g (row_at t i) → is_sound e ≡ true → Keeps u (put neighbor_key e (rows_of t))
      → Holds u (put_back neighbor_key g o (rows_of t))
  changed-holds u i e q p s k =
      subst (Holds u) (sym (ap (λ (x : Option NeighborEntry). put_back neighbor_key g x (rows_of t)) q ∙ ap (λ (x : NeighborEntry). put neighbor_key x (rows_of t)) (sym p)))
      (put_holds t u e w s k)

  pub unchanged-holds : o ≡ None → Holds t (put_back neighbor_key g o (rows_of t))
  unchanged-holds q = record { formed = w; rows = sym (ap (λ (x : Option NeighborEntry). put_back neighbor_key g x (rows_of t)) q) }

-- a table that holds rows is the table of these
pub keeps-table : (t : NeighborTable) (xs : List NeighborEntry) → Keeps t xs → t ≡ table_of xs
keeps-table t xs h = table-view t h.formed ∙ ap table_of h.rows

pub holds-table : (t : NeighborTable) (xs : List NeighborEntry) → Holds t xs → t ≡ table_of xs
holds-table t xs h = keeps-table t xs (holds-keeps t xs h)

-- the table of rows that fit holds them
module _ (xs : List NeighborEntry) (f : Fits xs) where
  ranged-at : (i : ℕ) → i < length xs → InRange (get_or xs i blank_neighbor)
  ranged-at = each_at InRange blank_neighbor xs (length xs) (omega arith) (subst (Each InRange) (sym (take-length xs)) f.ranged)

  pub made-formed : Formed64 (table_of xs)
  unfolding table_of
  made-formed = sound-formed (table_of xs) (view.made-sound 64 10 neighbor_key blank_neighbor neighbor_of neighbor_numbers Clean InRange codec xs f.fit ranged-at 9 refl)

  pub made-rows : rows_of (table_of xs) ≡ xs
  unfolding table_of
  made-rows = view.made-rows 64 10 neighbor_key blank_neighbor neighbor_of neighbor_numbers Clean InRange codec xs f.fit ranged-at 9 refl

  pub made-keeps : Keeps (table_of xs) xs
  made-keeps = record { formed = made-formed; rows = made-rows }

pub table-rows : (xs : List NeighborEntry) → FitRows xs → rows_of (table_of xs) ≡ xs
table-rows xs h = made-rows xs h.fits

pub table-holds : (xs : List NeighborEntry) → FitRows xs → Holds (table_of xs) xs
table-holds xs h = keeps-holds (table_of xs) xs (made-keeps xs h.fits) h.sound

pub table-formed : (xs : List NeighborEntry) → FitRows xs → WellFormed (table_of xs)
table-formed xs h = (table-holds xs h).formed

-- the steps on rows that fit
pub fit_none : FitRows []
fit_none = record { fits = record { fit = record { small = omega arith; ascending = tt }; ranged = tt }; sound = refl }

module _ (xs : List NeighborEntry) (f : Fits xs) where
  pub fits-put : (e : NeighborEntry) → InRange e → count_with neighbor_key (neighbor_key e) xs ≤ 64 → Fits (put neighbor_key e xs)
  fits-put e r room = record { fit = flat-fits.fit-put 64 neighbor_key blank_neighbor xs f.fit e room; ranged = each-put InRange neighbor_key e xs r f.ranged }

  pub fits-remove : (k : ℕ) → Fits (remove neighbor_key k xs)
  fits-remove k = record { fit = flat-fits.fit-remove 64 neighbor_key blank_neighbor xs f.fit k; ranged = each-remove InRange neighbor_key k xs f.ranged }

  pub fits-keep : (p : NeighborEntry → Bool) → Fits (keep p xs)
  fits-keep p = record { fit = flat-fits.fit-keep 64 neighbor_key blank_neighbor xs f.fit p; ranged = each_keep InRange p xs f.ranged }

  pub fits-map : (g : NeighborEntry → NeighborEntry) → ((x : NeighborEntry) → neighbor_key (g x) ≡ neighbor_key x) → ((x : NeighborEntry) → InRange x → InRange (g x)) → Fits (map g xs)
  fits-map g same within = record { fit = flat-fits.fit-map 64 neighbor_key blank_neighbor xs f.fit g same; ranged = go xs f.ranged } where
    go : (ys : List NeighborEntry) → Each InRange ys → Each InRange (map g ys)
    go [] e = tt
    go (y ∷ ys) e = (within y e.0, go ys e.1)

module _ (xs : List NeighborEntry) (h : FitRows xs) where
  pub fit-put : (e : NeighborEntry) → InRange e → is_sound e ≡ true → count_with neighbor_key (neighbor_key e) xs ≤ 64 → FitRows (put neighbor_key e xs)
  fit-put e r s room = record { fits = fits-put xs h.fits e r room; sound = every-put is_sound neighbor_key e xs s h.sound }

  pub fit-remove : (k : ℕ) → FitRows (remove neighbor_key k xs)
  fit-remove k = record { fits = fits-remove xs h.fits k; sound = every-remove is_sound neighbor_key k xs h.sound }

  pub fit-keep : (p : NeighborEntry → Bool) → FitRows (keep p xs)
  fit-keep p = record { fits = fits-keep xs h.fits p; sound = every-keep is_sound p xs h.sound }

  pub fit-map : (g : NeighborEntry → NeighborEntry) → ((x : NeighborEntry) → neighbor_key (g x) ≡ neighbor_key x) → ((x : NeighborEntry) → InRange x → InRange (g x))
      → ((x : NeighborEntry) → is_sound x ≡ true → is_sound (g x) ≡ true) → FitRows (map g xs)
  fit-map g same within kept = record { fits = fits-map xs h.fits g same within; sound = every_map is_sound g kept xs h.sound }
