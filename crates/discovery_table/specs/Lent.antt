-- The route discovery table in memory that is lent: whole, for change; its values alone for change, its keys being read; or for reading.
-- A call that changes it keeps the memory that is lent, and what is said of the discoveries is said of that memory when the loan is over.
-- Assumes nothing.
use Rattle.std.specs.Prelude.{ℕ, List, ◌≡◌, get_or, take, Result}
use Rattle.flat_map.specs.Seek.{place_of}
use Rattle.standard.specs.declared.DiscoveryEntry.{DiscoveryEntry}
use Rattle.discovery_table.specs.Codec.{discovery_in}
use Rattle.discovery_table.specs.Table.{DiscoveryTable, in_columns, rows_of}
use Rattle.discovery_table.specs.declared.Discoveries.{Discoveries}
use Rattle.discovery_table.specs.declared.DiscoveryValues.{DiscoveryValues}
use Rattle.discovery_table.specs.declared.DiscoveriesSeen.{DiscoveriesSeen}

-- the table that is lent, and its discoveries
abbrev pub table : Discoveries → DiscoveryTable
table d = in_columns d.keys.now d.words.now d.ends.now d.count

abbrev pub discoveries_of : Discoveries → List DiscoveryEntry
discoveries_of d = rows_of (table d)

abbrev pub value_table : DiscoveryValues → DiscoveryTable
value_table d = in_columns d.keys.now d.words.now d.ends.now d.count

abbrev pub value_discoveries : DiscoveryValues → List DiscoveryEntry
value_discoveries d = rows_of (value_table d)

abbrev pub seen_table : DiscoveriesSeen → DiscoveryTable
seen_table d = in_columns d.keys.now d.words.now d.ends.now d.count

abbrev pub seen_discoveries : DiscoveriesSeen → List DiscoveryEntry
seen_discoveries d = rows_of (seen_table d)

-- where a pair stands in a table, or would stand
abbrev pub place_in : DiscoveryTable → ℕ → Result ℕ ℕ
place_in t k = place_of (take t.count t.keys) k

-- what is read from a place of a table
abbrev pub read_at : DiscoveryTable → ℕ → DiscoveryEntry
read_at t i = discovery_in (get_or t.keys i 0) (get_or t.words i 0) (get_or t.ends i 0)

-- the same memory is lent
pub record SameColumns (old new : Discoveries) : Type 0 where
  pub keys : new.keys.ghost_name ≡ old.keys.ghost_name
  pub words : new.words.ghost_name ≡ old.words.ghost_name
  pub ends : new.ends.ghost_name ≡ old.ends.ghost_name

-- the same memory is lent, and its discoveries are now xs
pub record Becomes (old new : Discoveries) (xs : List DiscoveryEntry) : Type 0 where
  pub same : SameColumns old new
  pub discoveries : discoveries_of new ≡ xs

-- the same for a table whose values alone are lent for change: its keys and its count stay
pub record ValuesBecome (old new : DiscoveryValues) (xs : List DiscoveryEntry) : Type 0 where
  pub keys : new.keys ≡ old.keys
  pub words : new.words.ghost_name ≡ old.words.ghost_name
  pub ends : new.ends.ghost_name ≡ old.ends.ghost_name
  pub count : new.count ≡ old.count
  pub discoveries : value_discoveries new ≡ xs
