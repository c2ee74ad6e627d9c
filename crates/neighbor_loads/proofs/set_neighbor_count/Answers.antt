-- The count is read and set.
-- Assumes nothing.
use mathlib.Core.Path.{◌∙◌}
use Rattle.neighbor_loads.specs.Loads.{set_neighbor_count}
use Rattle.neighbor_loads.proofs.set_neighbor_count.Goals as goal

pub returns : goal.returns
unfolding set_neighbor_count
returns c = c.load.ensures ∙ rw c.at-n.ensures
