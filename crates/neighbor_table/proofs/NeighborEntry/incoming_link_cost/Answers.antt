-- The cost goes by the quality, case by case.
-- Assumes nothing.
use mathlib.Core.Path.{sym, ap, ◌∙◌}
use Rattle.neighbor_table.specs.Entry.{cost_of}
use Rattle.neighbor_table.proofs.NeighborEntry.incoming_link_cost.Goals as goal

pub returns-in-None : goal.returns-in-None
returns-in-None c = ap cost_of (sym c.in-None.is ∙ c.lqa-quality.ensures)

pub returns-in-Some : goal.returns-in-Some
returns-in-Some c = c.lqi_to_link_cost.ensures ∙ ap cost_of (sym c.in-Some.is ∙ c.lqa-quality.ensures)
