-- The variant decides, as the definition goes.
use mathlib.Core.Path.{sym, ap}
use Rattle.door_queries.specs.Questions.{deadline_places}
use Rattle.door_queries.proofs.deadline_places.Goals as goal

pub returns-in-None : goal.returns-in-None
returns-in-None c = ap deadline_places (sym c.in-None.is)

pub returns-in-Some : goal.returns-in-Some
returns-in-Some c = ap deadline_places (sym c.in-Some.is)
