-- The call is made with what the numbers give, and its outcome said.
use mathlib.Core.Path.{◌∙◌}
use Rattle.routing_groups.specs.Changed.{remove_route_call}
use Rattle.routing_groups.proofs.changes.remove_route.Goals as goal

pub returns : goal.returns
unfolding remove_route_call
returns c = c.told_reply.ensures ∙ rw (c.remove_route-o.ensures, c.nwk-x0.ensures)
