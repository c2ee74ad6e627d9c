-- A record table and its relay store as the records that they hold, and records packed into both.
-- Assumes nothing.
use Rattle.std.specs.Prelude.{ℕ, List, [], ◌∷◌, map, length, take}
use Rattle.standard.specs.declared.RecordEntry.{RecordEntry}
use Rattle.standard.specs.Records.{RouteRecord, address_key, ShortWay}
use Rattle.standard.specs.Route.{nwk}
use Rattle.flat_map.specs.Rows.{pad}
use Rattle.flat_map.specs.Table.{Each, Fit}
use Rattle.record_table.specs.Table.{RecordTable, WellFormed, rows_of, table_of}
use Rattle.relay_store.specs.Store.{rows_in, flat, row_of, blank_row, Agrees}

-- an entry and its row as a record
abbrev pub record_by : RecordEntry → List ℕ → RouteRecord
record_by e row = record { destination = e.destination; relays = map nwk (take e.relay_count row) }

abbrev pub records_by : List RecordEntry → List (List ℕ) → List RouteRecord
records_by [] rows = []
records_by (e ∷ es) [] = []
records_by (e ∷ es) (row ∷ rows) = record_by e row ∷ records_by es rows

-- the records of a table and a store
unfoldable pub records_of : RecordTable → List ℕ → List RouteRecord
records_of t store = records_by (rows_of t) (rows_in 64 store)

-- a record's entry in the table, and its row of the store
abbrev pub entry_of : RouteRecord → RecordEntry
entry_of x = record { destination = x.destination; relay_count = length x.relays }

abbrev pub relay_row : RouteRecord → List ℕ
relay_row x = row_of x.relays

-- the table and the store that hold records
abbrev pub table_for : List RouteRecord → RecordTable
table_for xs = table_of (map entry_of xs)

abbrev pub rows_for : List RouteRecord → List (List ℕ)
rows_for xs = pad 64 blank_row (map relay_row xs)

abbrev pub store_for : List RouteRecord → List ℕ
store_for xs = flat (rows_for xs)

abbrev pub blank_route_record : RouteRecord
blank_route_record = record { destination = nwk 0; relays = [] }

-- records that table and store can hold
pub record Fits (xs : List RouteRecord) : Type 0 where
  pub fit : Fit 64 address_key blank_route_record xs
  pub short : Each ShortWay xs

-- a well-formed table and a store that agrees with it
pub record Together (t : RecordTable) (store : List ℕ) : Type 0 where
  pub formed : WellFormed t
  pub agrees : Agrees t store
