-- The lent relay store as 64 rows of 32 numbers, and when it agrees with a record table.
-- Document 01, "Well formed": "The relay store has 64 rows of 32; row i holds the relays of the i-th record by address, zeros after
-- its length and in unused rows."
-- Assumes nothing.
use Rattle.std.specs.Prelude.{ℕ, zero, suc, ◌+◌, ◌*◌, ◌<◌, ◌≤◌, Bool, true, ◌&&◌, List, [], ◌∷◌, ◌++◌, map, ◌≡◌, eqb, length, take, drop, get_or, set, Result, Ok, Err}
use Rattle.std.specs.Int.Bits.{bit_and, bit_or}
use Rattle.types.specs.declared.Nwk.{Nwk}
use Rattle.standard.specs.declared.RelayList.{RelayList}
use Rattle.standard.specs.Route.{nwk}
use Rattle.flat_map.specs.Rows.{pad}
use Rattle.flat_map.specs.Shift.{shift_in}
use Rattle.flat_map.specs.Table.{ZeroFrom, every}
use Rattle.record_table.specs.Table.{RecordTable}

-- row i of a store
abbrev pub row_at : ℕ → List ℕ → List ℕ
row_at i store = take 32 (drop (32 * i) store)

-- the store with row i replaced: every number before the row and after it is as it was
abbrev pub with_row : ℕ → List ℕ → List ℕ → List ℕ
with_row i row store = take (32 * i) store ++ (row ++ drop (32 * i + 32) store)

-- the first n rows of a store, and rows laid one after the other
unfoldable pub rows_in : ℕ → List ℕ → List (List ℕ)
rows_in zero store = []
rows_in (suc n) store = take 32 store ∷ rows_in n (drop 32 store)

unfoldable pub flat : List (List ℕ) → List ℕ
flat [] = []
flat (r ∷ rs) = r ++ flat rs

-- a store changed as the list of its 64 rows
abbrev pub on_rows : (List (List ℕ) → List (List ℕ)) → List ℕ → List ℕ
on_rows f store = flat (f (rows_in 64 store))

-- an address as the store holds it
abbrev pub number : Nwk → ℕ
number a = a.0

-- the row that holds relays: their addresses, and zeros after them
abbrev pub row_of : List Nwk → List ℕ
row_of relays = pad 32 0 (map number relays)

abbrev pub blank_row : List ℕ
blank_row = pad 32 0 []

-- the relays that a list names, and the list that names relays, blank after them
abbrev pub relays_of : RelayList → List Nwk
relays_of l = take l.count l.addresses

unfoldable pub relay_list : List Nwk → RelayList
relay_list relays = record { count = length relays; addresses = pad 32 (nwk 0) relays }

-- a row put at a place: over the one that is there, or with the rows after it shifted
abbrev pub row_put : Result ℕ ℕ → List ℕ → List (List ℕ) → List (List ℕ)
row_put (Ok i) row rows = set rows i row
row_put (Err i) row rows = shift_in i row rows

-- a place of one of the 64 rows
abbrev pub PlaceWithin : Result ℕ ℕ → Type 0
PlaceWithin (Ok i) = i < 64
PlaceWithin (Err i) = i < 64

-- how many relays the record at a place has; 0 at a place that is not in use
abbrev pub relay_count_of : RecordTable → ℕ → ℕ
relay_count_of t i = get_or t.lengths i 0

-- a store of 64 rows, each zero after as many numbers as the column says
pub record AgreesBy (lengths store : List ℕ) : Type 0 where
  pub places : length store ≡ 2048
  pub zeros : (i : ℕ) → i < 64 → ZeroFrom (row_at i store) (get_or lengths i 0)

-- a store that agrees with a table: its rows are as long as the table's records
abbrev pub Agrees : RecordTable → List ℕ → Type 0
Agrees t store = AgreesBy t.lengths store

-- a test of every number below n
abbrev pub all_below : ℕ → (ℕ → Bool) → Bool
all_below zero test = true
all_below (suc n) test = test n && all_below n test

-- `AgreesBy` and `Agrees`, computed
unfoldable pub agrees_by : List ℕ → List ℕ → Bool
agrees_by lengths store = eqb (length store) 2048 && all_below 64 (λ i. every (eqb 0) (drop (get_or lengths i 0) (row_at i store)))

abbrev pub agrees : RecordTable → List ℕ → Bool
agrees t store = agrees_by t.lengths store

-- what is gathered at 32 places after one more row: the bits that were there, and those of the row's number that its mask lets through
pub record Marked (old row mask new : List ℕ) : Type 0 where
  pub long : length new ≡ 32
  pub each : (j : ℕ) → j < 32 → get_or new j 0 ≡ bit_or (get_or old j 0) (bit_and (get_or row j 0) (get_or mask j 0))

-- the masks that rows are read through: 32 that let nothing through, and 32 that let all through
pub record Masks (masks : List ℕ) : Type 0 where
  pub long : length masks ≡ 64
  pub none : (j : ℕ) → j < 32 → get_or masks j 0 ≡ 0
  pub all : (j : ℕ) → 32 ≤ j → j < 64 → get_or masks j 0 ≡ 65535
