-- The variant decides, as the definition goes.
use mathlib.Core.Path.{sym, ap, ◌∙◌}
use Rattle.door_queries.specs.Questions.{status_places, status_at}
use Rattle.door_queries.proofs.status_places.Goals as goal

pub returns-in-None : goal.returns-in-None
returns-in-None c = ap status_places (sym c.in-None.is)

pub returns-in-Some : goal.returns-in-Some
returns-in-Some c = ap (status_at 1) c.status_number.ensures ∙ ap status_places (sym c.in-Some.is)
