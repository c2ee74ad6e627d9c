-- The call is made with what the numbers give, and its outcome said.
use mathlib.Core.Path.{◌∙◌}
use Rattle.routing_groups.specs.Changed.{accept_route_request_call}
use Rattle.routing_groups.proofs.changes.accept_route_request.Goals as goal

pub returns : goal.returns
unfolding accept_route_request_call
returns c = c.request_reply.ensures ∙ rw (c.accept_route_request-o.ensures, c.at-x7.ensures, c.at-x6.ensures, c.many_to_one-x5.ensures, c.at.ensures, c.byte-x4.ensures, c.nwk-x3.ensures, c.nwk-x2.ensures, c.byte-x1.ensures, c.nwk-x0.ensures)
