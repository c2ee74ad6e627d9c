-- The count is read and set.
-- Assumes nothing.
use mathlib.Core.Path.{◌∙◌}
use Rattle.route_loads.specs.Loads.{set_record_count}
use Rattle.route_loads.proofs.set_record_count.Goals as goal

pub returns : goal.returns
unfolding set_record_count
returns c = c.load.ensures ∙ rw c.at-n.ensures
