-- Those counted and those that still fit make up all that fit.
use Prim.Native.Nat.{◌+◌, ◌≤◌}
use mathlib.Core.List.{List}
use mathlib.Core.Path.{◌≡◌}
use lib.ListN.{drop}
use Rattle.standard.specs.Query.{count_fits}
use Rattle.neighbor_table.specs.declared.NeighborEntry.{NeighborEntry}
use Rattle.neighbor_columns.specs.Lent.{Asked}
use Rattle.neighbor_queries.specs.Filter.{fits}
use Rattle.neighbor_queries_lent.specs.Read.{lent_words}
use Rattle.neighbor_queries_lent.proofs.count_fitting.Given as goal

abbrev pub invariant-loop-i : goal.invariant-loop-i
invariant-loop-i l = (l.fitting ≤ l.i) × Asked (lent_words l.nwks l.links l.count) (λ (xs : List NeighborEntry). l.fitting + count_fits (fits l.filter) (drop l.i xs) ≡ count_fits (fits l.filter) xs)
