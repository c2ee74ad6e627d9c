-- The columns that the call leaves are put back, and they are those of the rows with the neighbour among them.
-- Assumes nothing.
use mathlib.Core.Path.{◌≡◌, sym, ap}
use lib.ListN.{length}
use Rattle.neighbor_columns.specs.Table.{NeighborTable}
use Rattle.neighbor_columns.proofs.Rows.{keeps-table}
use Rattle.neighbor_loads.specs.Loads.{with_neighbors}
use borrow.Author.Rules.{rules}
use Rattle.neighbor_loads.proofs.with_neighbor.Goals as goal
use Rattle.neighbor_loads.proofs.with_neighbor.Goals.{Start}

long : (c : Start) → (length c.args.s.added ≡ 64) × (length c.args.s.beacons ≡ 64) × (length c.args.s.bytes ≡ 64)
long c = (search rules, search rules, search rules)

pub slice_bounds-put_at-end-8 : goal.slice_bounds-put_at-end-8
slice_bounds-put_at-end-8 c = sym (long (goal.at.slice_bounds-put_at-end-8 c).Start).0

pub slice_bounds-put_at-end-9 : goal.slice_bounds-put_at-end-9
slice_bounds-put_at-end-9 c = sym (long (goal.at.slice_bounds-put_at-end-9 c).Start).1

pub slice_bounds-put_at-end-10 : goal.slice_bounds-put_at-end-10
slice_bounds-put_at-end-10 c = sym (long (goal.at.slice_bounds-put_at-end-10 c).Start).2

pub put_at-count-requires : goal.put_at-count-requires
put_at-count-requires c = c.requires

pub returns : goal.returns
returns c = ap (λ (t : NeighborTable). with_neighbors c.args.s t) (keeps-table _ _ c.put_at-count.ensures)
