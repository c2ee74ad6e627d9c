-- The route record table: 64 places in two columns of numbers, keys and numbers of relays, ordered by destination, read as the entries that it holds.
-- Document 01, "Capacities and clock": "route records 64, each of at most 32 relays"; "Well formed".
-- Assumes nothing.
use Rattle.std.specs.Prelude.{ℕ, Bool, ◌&&◌, List, [], ◌∷◌, map, ◌≡◌, length}
use Rattle.standard.specs.declared.RecordEntry.{RecordEntry}
use Rattle.standard.specs.Record.{record_key}
use Rattle.standard.specs.Route.{nwk}
use Rattle.flat_map.specs.Rows.{pad}
use Rattle.flat_map.specs.Table.{Each, Fit}
use Rattle.columns.specs.Columns.{Ordered, ordered, Under, are_under}
use Rattle.columns.specs.Table.{rows_in}
use Rattle.record_table.specs.Codec.{record_of, length_end, InRange}

pub record RecordTable : Type 0 where
  pub keys : List ℕ
  pub lengths : List ℕ
  pub count : ℕ

-- the table in columns that are lent
abbrev pub in_columns : List ℕ → List ℕ → ℕ → RecordTable
in_columns keys lengths count = record { keys = keys; lengths = lengths; count = count }

-- what stands in a place that is not in use: all zeros
abbrev pub blank_record : RecordEntry
blank_record = record { destination = nwk 0; relay_count = 0 }

pub record WellFormed (t : RecordTable) : Type 0 where
  pub ordered : Ordered 64 t.keys (t.lengths ∷ []) t.count
  pub few : Under length_end t.lengths

-- `WellFormed`, computed
abbrev pub well_formed : RecordTable → Bool
well_formed t = ordered 64 t.keys (t.lengths ∷ []) t.count && are_under length_end t.lengths

-- the entries that a table holds
abbrev pub rows_of : RecordTable → List RecordEntry
rows_of t = rows_in record_of 64 (t.keys ∷ t.lengths ∷ []) t.count

-- the table that holds the entries xs
unfoldable pub table_of : List RecordEntry → RecordTable
table_of xs = record {
  keys = pad 64 0 (map record_key xs);
  lengths = pad 64 0 (map (λ (e : RecordEntry). e.relay_count) xs);
  count = length xs;
}

-- entries that a table can hold
pub record Fits (xs : List RecordEntry) : Type 0 where
  pub fit : Fit 64 record_key blank_record xs
  pub ranged : Each InRange xs

-- a table that is well formed and holds the entries xs
pub record Holds (t : RecordTable) (xs : List RecordEntry) : Type 0 where
  pub formed : WellFormed t
  pub rows : rows_of t ≡ xs
