-- The count is read and set.
-- Assumes nothing.
use mathlib.Core.Path.{◌∙◌}
use Rattle.route_loads.specs.Loads.{set_route_count}
use Rattle.route_loads.proofs.set_route_count.Goals as goal

pub returns : goal.returns
unfolding set_route_count
returns c = c.load.ensures ∙ rw c.at-n.ensures
