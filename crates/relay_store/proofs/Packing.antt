-- A well-formed table and a store that agrees with it hold their records and nothing else: packed again, the records are both;
-- and records that fit, packed, are a well-formed table and an agreeing store, and are read back.
use Prim.Native.Nat.{ℕ, zero, suc, ◌<◌, ◌≤◌, zero-le}
use native.Mathlib.Nat.{le_of_suc-le-suc, not-suc-le-zero}
use native.Mathlib.Omega.{arith}
use mathlib.Core.List.{List, [], ◌∷◌, map}
use mathlib.Core.Logic.{⊎_elim}
use mathlib.Core.Path.{◌≡◌, refl, sym, ap, ◌∙◌, subst}
use lib.ListN.{length, take, get_or, length-map, get_or-eq_default}
use lib.Seq.{length-take-le}
use Rattle.types.specs.declared.Nwk.{Nwk}
use Rattle.standard.specs.declared.RecordEntry.{RecordEntry}
use Rattle.standard.specs.Ordered.{Asc}
use Rattle.standard.specs.Record.{record_key}
use Rattle.standard.specs.Records.{RouteRecord, address_key, ShortWay}
use Rattle.standard.specs.Route.{nwk}
use Rattle.flat_map.specs.Rows.{pad}
use Rattle.flat_map.specs.Table.{Each, ZeroFrom}
use Rattle.flat_map.proofs.Compare.{below_or_not}
use Rattle.flat_map.proofs.Rows.{cons, length-pad, take-pad, getD-blank, pad-is}
use Rattle.record_table.specs.Codec.{InRange}
use Rattle.record_table.specs.Table.{RecordTable, blank_record, rows_of, WellFormed, table_of, Fits as EntriesFit}
use Rattle.record_table.proofs.Rows as table
use Rattle.record_table.proofs.Rows.{table-view, table-fit, table-rows, table-formed}
use Rattle.relay_store.specs.Store.{number, row_at, rows_in, row_of, blank_row, relay_count_of, Agrees}
use Rattle.relay_store.specs.Packed.{record_by, records_by, records_of, entry_of, relay_row, table_for, rows_for, store_for, blank_route_record, Fits, Together}
use Rattle.relay_store.proofs.Cells.{number-nwk, nwk-number}
use Rattle.relay_store.proofs.Rows.{Wide, count-rows, rows-flat, length-flat, row_is, wide_row}
use Rattle.relay_store.proofs.Shifts.{laid_out}

-- a row that holds the relays of an entry, and nothing after them
pub record Matched (e : RecordEntry) (row : List ℕ) : Type 0 where
  pub width : length row ≡ 32
  pub few : e.relay_count ≤ 32
  pub zeros : ZeroFrom row e.relay_count

relays-many : (e : RecordEntry) (row : List ℕ) → Matched e row → length (map nwk (take e.relay_count row)) ≡ e.relay_count
relays-many e row m = length-map (take e.relay_count row) nwk ∙ length-take-le e.relay_count row (omega (arith, m.few, m.width))

row_back : (e : RecordEntry) (row : List ℕ) → Matched e row → relay_row (record_by e row) ≡ row
row_back e row m =
    ap (pad 32 0) (number-nwk (take e.relay_count row))
    ∙ sym (pad-is row e.relay_count 0 m.zeros ∙ ap (λ (n : ℕ). pad n 0 (take e.relay_count row)) m.width)

-- entries and rows, taken together place by place
abbrev AllMatched : List RecordEntry → List (List ℕ) → Type 0
AllMatched es rows = (i : ℕ) → i < length es → Matched (get_or es i blank_record) (get_or rows i [])

entries_by : (es : List RecordEntry) (rows : List (List ℕ)) → length es ≤ length rows → AllMatched es rows → map entry_of (records_by es rows) ≡ es
entries_by [] rows h m = refl
entries_by (e ∷ es) [] h m = absurd (not-suc-le-zero h)
entries_by (e ∷ es) (row ∷ rows) h m =
    let many = relays-many e row (m 0 (omega arith)) in
    λ z. record { destination = e.destination; relay_count = many z } ∷ entries_by es rows (le_of_suc-le-suc h) (λ i l. m (suc i) (omega arith)) z

rows-by : (es : List RecordEntry) (rows : List (List ℕ)) → length es ≤ length rows → AllMatched es rows → map relay_row (records_by es rows) ≡ take (length es) rows
rows-by [] rows h m = refl
rows-by (e ∷ es) [] h m = absurd (not-suc-le-zero h)
rows-by (e ∷ es) (row ∷ rows) h m =
    let back = row_back e row (m 0 (omega arith)) in
    λ z. back z ∷ rows-by es rows (le_of_suc-le-suc h) (λ i l. m (suc i) (omega arith)) z

pub record-at : (es : List RecordEntry) (rows : List (List ℕ)) (i : ℕ) → i < length es → length es ≤ length rows
    → get_or (records_by es rows) i blank_route_record ≡ record_by (get_or es i blank_record) (get_or rows i [])
record-at [] rows i l h = absurd (not-suc-le-zero l)
record-at (e ∷ es) [] i l h = absurd (not-suc-le-zero h)
record-at (e ∷ es) (row ∷ rows) zero l h = refl
record-at (e ∷ es) (row ∷ rows) (suc i) l h = record-at es rows i (le_of_suc-le-suc l) (le_of_suc-le-suc h)

-- an entry has its record's key
pub entry-keys : (xs : List RouteRecord) → map record_key (map entry_of xs) ≡ map address_key xs
entry-keys [] = refl
entry-keys (x ∷ xs) = cons (address_key x) (entry-keys xs)

short-of : (xs : List RouteRecord) → Each InRange (map entry_of xs) → Each ShortWay xs
short-of [] e = tt
short-of (x ∷ xs) e = (omega (arith, e.0), short-of xs e.1)

few-of : (xs : List RouteRecord) → Each ShortWay xs → Each InRange (map entry_of xs)
few-of [] e = tt
few-of (x ∷ xs) e = (omega (arith, e.0), few-of xs e.1)

-- a table and a store that agree
module _ (t : RecordTable) (s : List ℕ) (w : WellFormed t) (a : Agrees t s) where
  many : length (rows_of t) ≡ t.count
  many = table.many t w

  room : length (rows_of t) ≤ length (rows_in 64 s)
  room = omega (arith, many, w.ordered.small, count-rows 64 s)

  wide_at : (i : ℕ) → i < 64 → length (row_at i s) ≡ 32
  wide_at i h = wide_row 64 i s (omega (arith, a.places)) h

  matched : AllMatched (rows_of t) (rows_in 64 s)
  matched i l =
      let h : i < 64 = omega (arith, many, w.ordered.small) in
      subst (Matched (get_or (rows_of t) i blank_record)) (sym (row_is 64 i s [] h))
      (subst (λ (e : RecordEntry). Matched e (row_at i s)) (sym (table.row-at t w i (omega (arith, many))))
      (record { width = wide_at i h; few = omega (arith, w.few i); zeros = a.zeros i h }))

  pub entries-back : map entry_of (records_of t s) ≡ rows_of t
  unfolding records_of
  entries-back = entries_by (rows_of t) (rows_in 64 s) room matched

  -- a row that is not in use is blank
  unused : (i : ℕ) → t.count ≤ i → get_or (rows_in 64 s) i blank_row ≡ blank_row
  unused i h = ⊎_elim inside past (below_or_not i 64) where
    zero_row : i < 64 → ZeroFrom (row_at i s) 0
    zero_row l = subst (ZeroFrom (row_at i s)) (w.ordered.zeros.1.0 i h) (a.zeros i l)

    inside : i < 64 → get_or (rows_in 64 s) i blank_row ≡ blank_row
    inside l =
        row_is 64 i s blank_row l
        ∙ pad-is (row_at i s) 0 0 (zero_row l)
        ∙ ap (λ (n : ℕ). pad n 0 []) (wide_at i l)

    past : 64 ≤ i → get_or (rows_in 64 s) i blank_row ≡ blank_row
    past l = get_or-eq_default (rows_in 64 s) blank_row {n = i} (omega (arith, count-rows 64 s))

  pub rows_back : rows_for (records_of t s) ≡ rows_in 64 s
  unfolding records_of
  rows_back =
      ap (pad 64 blank_row) (rows-by (rows_of t) (rows_in 64 s) room matched ∙ ap (λ (n : ℕ). take n (rows_in 64 s)) many)
      ∙ sym (pad-is (rows_in 64 s) t.count blank_row unused ∙ ap (λ (n : ℕ). pad n blank_row (take t.count (rows_in 64 s))) (count-rows 64 s))

  pub view-table : t ≡ table_for (records_of t s)
  view-table = table-view t w ∙ ap table_of (sym entries-back)

  pub view-store : s ≡ store_for (records_of t s)
  view-store = laid_out s (rows_for (records_of t s)) a.places (sym rows_back)

  pub keys-back : take t.count t.keys ≡ map address_key (records_of t s)
  keys-back =
      table.keys-are t w
      ∙ ap (map record_key) (sym entries-back)
      ∙ entry-keys (records_of t s)

  pub view-fits : Fits (records_of t s)
  view-fits = record {
    fit = record {
      small = omega (arith, (table-fit t w).fit.small, ap length entries-back, length-map (records_of t s) entry_of);
      ascending = subst Asc (ap (map record_key) (sym entries-back) ∙ entry-keys (records_of t s)) (table-fit t w).fit.ascending;
    };
    short = short-of (records_of t s) (rw entries-back (table-fit t w).ranged);
  }

-- records that fit
each-pad : (n : ℕ) (b : List ℕ) (rows : List (List ℕ)) → Wide b → Each Wide rows → Each Wide (pad n b rows)
each-pad zero b rows h e = tt
each-pad (suc n) b [] h e = (h, each-pad n b [] h tt)
each-pad (suc n) b (r ∷ rows) h e = (e.0, each-pad n b rows h e.1)

wide_of : (xs : List RouteRecord) → Each Wide (map relay_row xs)
wide_of [] = tt
wide_of (x ∷ xs) = (length-pad {A = ℕ} 32 0 (map number x.relays), wide_of xs)

relays-back : (relays : List Nwk) → length relays ≤ 32 → map nwk (take (length relays) (row_of relays)) ≡ relays
relays-back relays h =
    ap (λ (n : ℕ). map nwk (take n (row_of relays))) (sym (length-map relays number))
    ∙ ap (map nwk) (take-pad 32 0 (map number relays) (omega (arith, length-map relays number)))
    ∙ nwk-number relays

records-by : (n : ℕ) (xs : List RouteRecord) → length xs ≤ n → Each ShortWay xs → records_by (map entry_of xs) (pad n blank_row (map relay_row xs)) ≡ xs
records-by n [] h e = refl
records-by zero (x ∷ xs) h e = absurd (not-suc-le-zero h)
records-by (suc n) (x ∷ xs) h e =
    let back = relays-back x.relays e.0 in
    λ z. record { destination = x.destination; relays = back z } ∷ records-by n xs (le_of_suc-le-suc h) e.1 z

zeros_by : (n : ℕ) (xs : List RouteRecord) (i : ℕ)
    → ZeroFrom (get_or (pad n blank_row (map relay_row xs)) i blank_row) (get_or (pad n 0 (map (λ (e : RecordEntry). e.relay_count) (map entry_of xs))) i 0)
zeros_by zero xs i j h = getD-blank 32 j 0 [] zero-le
zeros_by (suc n) [] zero j h = getD-blank 32 j 0 [] zero-le
zeros_by (suc n) [] (suc i) j h = zeros_by n [] i j h
zeros_by (suc n) (x ∷ xs) zero j h = getD-blank 32 j 0 (map number x.relays) (omega (arith, length-map x.relays number))
zeros_by (suc n) (x ∷ xs) (suc i) j h = zeros_by n xs i j h

module _ (xs : List RouteRecord) (f : Fits xs) where
  pub entries_fit : EntriesFit (map entry_of xs)
  entries_fit = record {
    fit = record {
      small = omega (arith, f.fit.small, length-map xs entry_of);
      ascending = subst Asc (sym (entry-keys xs)) f.fit.ascending;
    };
    ranged = few-of xs f.short;
  }

  pub packed-formed : WellFormed (table_for xs)
  packed-formed = table-formed (map entry_of xs) entries_fit

  wide-packed : Each Wide (rows_for xs)
  wide-packed = each-pad 64 blank_row (map relay_row xs) (length-pad {A = ℕ} 32 0 []) (wide_of xs)

  pub packed-rows : rows_in 64 (store_for xs) ≡ rows_for xs
  packed-rows = rows-flat (rows_for xs) 64 wide-packed (length-pad 64 blank_row (map relay_row xs))

  pub packed-agrees : Agrees (table_for xs) (store_for xs)
  unfolding table_of
  packed-agrees = record {
    places = length-flat (rows_for xs) wide-packed ∙ omega (arith, length-pad 64 blank_row (map relay_row xs));
    zeros = λ i h. subst (λ (row : List ℕ). ZeroFrom row (relay_count_of (table_for xs) i)) (at i h) (zeros_by 64 xs i);
  } where
    at : (i : ℕ) → i < 64 → get_or (rows_for xs) i blank_row ≡ row_at i (store_for xs)
    at i h = ap (λ (rows : List (List ℕ)). get_or rows i blank_row) (sym packed-rows) ∙ row_is 64 i (store_for xs) blank_row h

  pub records-back : records_of (table_for xs) (store_for xs) ≡ xs
  unfolding records_of
  records-back =
      (λ z. records_by (table-rows (map entry_of xs) entries_fit z) (packed-rows z))
      ∙ records-by 64 xs f.fit.small f.short

  pub packed-together : Together (table_for xs) (store_for xs)
  packed-together = record { formed = packed-formed; agrees = packed-agrees }

-- a table and a store that agree are those of their records
pub together-view : (t : RecordTable) (s : List ℕ) → Together t s → (t ≡ table_for (records_of t s)) × (s ≡ store_for (records_of t s))
together-view t s g = (view-table t s g.formed g.agrees, view-store t s g.formed g.agrees)
