-- The earliest of the deadlines passed, with the earliest of those to come, is the earliest of all.
use mathlib.Core.List.{List, map}
use mathlib.Core.Path.{◌≡◌}
use lib.ListN.{drop}
use Rattle.standard.specs.Ordered.{keep}
use Rattle.standard.specs.Rows.{lesser, least}
use Rattle.neighbor_table.specs.declared.NeighborEntry.{NeighborEntry}
use Rattle.neighbor_columns.specs.Lent.{Asked}
use Rattle.neighbor_queries.specs.Filter.{fits}
use Rattle.neighbor_queries.specs.Lists.{deadline_of}
use Rattle.neighbor_queries_lent.specs.Read.{lent_deadlines}
use Rattle.neighbor_queries_lent.proofs.earliest_fitting.Given as goal

abbrev pub invariant-loop-i : goal.invariant-loop-i
invariant-loop-i l = Asked (lent_deadlines l.nwks l.links l.deadlines l.count) (λ (xs : List NeighborEntry). lesser (l.first) (least (map deadline_of (keep (fits l.filter) (drop l.i xs)))) ≡ least (map deadline_of (keep (fits l.filter) xs)))
