-- Each word of the record is taken apart; where it says nothing the Active route is next.
-- Assumes nothing.
use mathlib.Core.Path.{sym, ◌∙◌}
use Rattle.hop_choice.proofs.by_tables.Goals as goal

pub returns-in-Nothing : goal.returns-in-Nothing
returns-in-Nothing c = rw (sym c.record_says-says.ensures ∙ c.in-Nothing.is) c.by_route.ensures

pub returns-in-Direct : goal.returns-in-Direct
returns-in-Direct c = rw (sym c.record_says-says.ensures ∙ c.in-Direct.is)

pub returns-in-Row : goal.returns-in-Row
returns-in-Row c = rw (sym c.record_says-says.ensures ∙ c.in-Row.is)
