-- The call is made with what the numbers give, and its outcome said.
use mathlib.Core.Path.{◌∙◌}
use Rattle.routing_groups.specs.Changed.{restore_route_call}
use Rattle.routing_groups.proofs.changes.restore_route.Goals as goal

pub returns : goal.returns
unfolding restore_route_call
returns c = c.done_reply.ensures ∙ rw (c.restore_route-o.ensures, c.byte-x2.ensures, c.nwk-x1.ensures, c.nwk-x0.ensures)
