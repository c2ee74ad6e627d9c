-- No row passed fits, so that the first of the rest is the first of all.
use mathlib.Core.List.{List}
use mathlib.Core.Path.{◌≡◌}
use lib.ListN.{drop}
use Rattle.standard.specs.Query.{first}
use Rattle.neighbor_table.specs.declared.NeighborEntry.{NeighborEntry}
use Rattle.neighbor_columns.specs.Lent.{Asked}
use Rattle.neighbor_queries.specs.Filter.{fits}
use Rattle.neighbor_queries.specs.declared.Filter.TheVariants.{TimedOut}
use Rattle.neighbor_queries_lent.specs.Read.{lent_times}
use Rattle.neighbor_queries_lent.proofs.first_timed_out.Given as goal

abbrev pub invariant-loop-i : goal.invariant-loop-i
invariant-loop-i l = Asked (lent_times l.links l.deadlines l.count) (λ (xs : List NeighborEntry). first (fits (TimedOut l.at)) (drop l.i xs) ≡ first (fits (TimedOut l.at)) xs)
