-- The variant decides, as the definition goes.
use mathlib.Core.Path.{sym, ap}
use Rattle.door_queries.specs.Questions.{check_places}
use Rattle.door_queries.proofs.check_places.Goals as goal

pub returns-in-Sound : goal.returns-in-Sound
returns-in-Sound c = ap check_places (sym c.in-Sound.is)

pub returns-in-UnknownHop : goal.returns-in-UnknownHop
returns-in-UnknownHop c = ap check_places (sym c.in-UnknownHop.is)

pub returns-in-Orphan : goal.returns-in-Orphan
returns-in-Orphan c = ap check_places (sym c.in-Orphan.is)
