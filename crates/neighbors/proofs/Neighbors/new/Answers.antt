-- Each column of a fresh state is noughts, as in a table of no rows.
use mathlib.Core.Path.{refl}
use Rattle.neighbor_columns.specs.Table as neighbours
use Rattle.waiting_columns.specs.Table as waiting
use Rattle.neighbors.proofs.Neighbors.new.Goals as goal

pub returns : goal.returns
unfolding neighbours.table_of waiting.table_of
returns c = refl
