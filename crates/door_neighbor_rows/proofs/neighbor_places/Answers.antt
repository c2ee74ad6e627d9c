-- By whether one was found.
use mathlib.Core.Path.{sym, ap, ◌∙◌}
use Rattle.door_neighbor_rows.specs.Rows.{neighbor_places}
use Rattle.door_neighbor_rows.proofs.neighbor_places.Goals as goal

pub returns-in-Some : goal.returns-in-Some
returns-in-Some c = c.entry_places.ensures ∙ ap neighbor_places (sym c.in-Some.is)

pub returns-in-None : goal.returns-in-None
returns-in-None c = c.no_places.ensures ∙ ap neighbor_places (sym c.in-None.is)
