-- The entry is read and put.
use mathlib.Core.Path.{◌∙◌}
use Rattle.route_loads.specs.Loads.{put_discovery}
use Rattle.route_loads.proofs.put_discovery.Goals as goal

pub returns : goal.returns
unfolding put_discovery
returns c = c.load_discovery.ensures ∙ rw c.discovery-e.ensures
