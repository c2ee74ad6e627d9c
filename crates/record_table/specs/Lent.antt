-- The route record table in memory that is lent, for change or for reading.
-- A call that changes it keeps the memory that is lent, and what is said of the entries is said of that memory when the loan is over.
-- Assumes nothing.
use Rattle.std.specs.Prelude.{ℕ, List, ◌≡◌, get_or, take, Result}
use Rattle.flat_map.specs.Seek.{place_of}
use Rattle.standard.specs.declared.RecordEntry.{RecordEntry}
use Rattle.record_table.specs.Codec.{record_in}
use Rattle.record_table.specs.Table.{RecordTable, in_columns, rows_of}
use Rattle.record_table.specs.declared.Records.{Records}
use Rattle.record_table.specs.declared.RecordsSeen.{RecordsSeen}

-- the table that is lent, and its entries
abbrev pub table : Records → RecordTable
table r = in_columns r.keys.now r.lengths.now r.count

abbrev pub entries_of : Records → List RecordEntry
entries_of r = rows_of (table r)

abbrev pub seen_table : RecordsSeen → RecordTable
seen_table r = in_columns r.keys.now r.lengths.now r.count

-- where a destination stands in a table, or would stand
abbrev pub place_in : RecordTable → ℕ → Result ℕ ℕ
place_in t k = place_of (take t.count t.keys) k

-- what is read from a place of a table
abbrev pub read_at : RecordTable → ℕ → RecordEntry
read_at t i = record_in (get_or t.keys i 0) (get_or t.lengths i 0)

-- the same memory is lent
pub record SameColumns (old new : Records) : Type 0 where
  pub keys : new.keys.ghost_name ≡ old.keys.ghost_name
  pub lengths : new.lengths.ghost_name ≡ old.lengths.ghost_name

-- the same memory is lent, and its entries are now xs
pub record Becomes (old new : Records) (xs : List RecordEntry) : Type 0 where
  pub same : SameColumns old new
  pub entries : entries_of new ≡ xs
