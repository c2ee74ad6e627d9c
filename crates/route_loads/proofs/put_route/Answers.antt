-- The entry is read and put.
use mathlib.Core.Path.{◌∙◌}
use Rattle.route_loads.specs.Loads.{put_route}
use Rattle.route_loads.proofs.put_route.Goals as goal

pub returns : goal.returns
unfolding put_route
returns c = c.load_route.ensures ∙ rw c.route-e.ensures
