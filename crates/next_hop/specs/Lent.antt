-- Two columns of the neighbours that are lent: there is a table that has them.
-- Assumes nothing.
use Rattle.std.specs.Prelude.{ℕ, List}
use Rattle.neighbor_columns.specs.Table.{NeighborTable, Formed64}
use Rattle.neighbor_queries_lent.specs.Read.{lent_words}

pub record OfTable (nwks links : List ℕ) (count : ℕ) : Type 0 where
  pub table : NeighborTable
  pub formed : Formed64 (lent_words nwks links count table)
