-- The entry is read and put.
use mathlib.Core.Path.{◌∙◌}
use Rattle.neighbor_loads.specs.Loads.{put_neighbor}
use Rattle.neighbor_loads.proofs.put_neighbor.Goals as goal

pub returns : goal.returns
unfolding put_neighbor
returns c = c.load_neighbor.ensures ∙ rw c.neighbor_at-e.ensures
