-- Where the row stands that a look-up picks, from the columns that are lent; the count or more where it picks none.
-- Assumes nothing.
use Rattle.std.specs.Prelude.{ℕ, ◌<◌, ◌≤◌, List, ◌≡◌, Option, Some, None}
use Rattle.neighbor_table.specs.declared.NeighborEntry.{NeighborEntry}
use Rattle.neighbor_columns.specs.Table.{NeighborTable, rows_of, row_at, Formed64}

pub record StandsAt (table : NeighborTable → NeighborTable) (pick : List NeighborEntry → Option NeighborEntry) (n r : ℕ) : Type 0 where
  pub there : r < n → (t : NeighborTable) → Formed64 (table t) → pick (rows_of (table t)) ≡ Some (row_at (table t) r)
  pub nowhere : n ≤ r → (t : NeighborTable) → Formed64 (table t) → pick (rows_of (table t)) ≡ None
