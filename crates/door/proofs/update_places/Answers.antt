-- The variant decides, as the definition goes.
use mathlib.Core.Path.{sym, ap}
use Rattle.door.specs.Places.{update_places}
use Rattle.door.proofs.update_places.Goals as goal

pub returns-in-None : goal.returns-in-None
returns-in-None c = ap update_places (sym c.in-None.is)

pub returns-in-Some : goal.returns-in-Some
returns-in-Some c = ap update_places (sym c.in-Some.is)
