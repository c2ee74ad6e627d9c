-- The variant decides, as the definition goes.
use mathlib.Core.Path.{sym, ap}
use Rattle.door_neighbor_rows.specs.Rows.{quality_places}
use Rattle.door_neighbor_rows.proofs.quality_places.Goals as goal

pub returns-in-None : goal.returns-in-None
returns-in-None c = ap quality_places (sym c.in-None.is)

pub returns-in-Some : goal.returns-in-Some
returns-in-Some c = ap quality_places (sym c.in-Some.is)
