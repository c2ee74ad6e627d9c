-- The neighbours' table of columns that are lent, by the test of them: a call that is lent some of the columns says its answer of every table that has
-- these, and this is the one that is asked about.
use mathlib.Core.Bool.{Bool}
use mathlib.Core.Path.{◌≡◌}
use Rattle.neighbor_columns.specs.Table as neighbours
use Rattle.waiting_columns.specs.Table as waits
use Rattle.neighbors.specs.State.{formed_in}

abbrev pub table_of : (t : neighbours.NeighborTable) (w : waits.WaitingTable) (b : Bool) → b ≡ formed_in t w → neighbours.NeighborTable
table_of t w b e = t
