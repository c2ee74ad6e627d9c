-- The call is made with what the numbers give, and its outcome said.
use mathlib.Core.Path.{◌∙◌}
use Rattle.routing_groups.specs.Changed.{accept_route_reply_call}
use Rattle.routing_groups.proofs.changes.accept_route_reply.Goals as goal

pub returns : goal.returns
unfolding accept_route_reply_call
returns c = c.reply_reply.ensures ∙ rw (c.accept_route_reply-o.ensures, c.byte-x5.ensures, c.nwk-x4.ensures, c.nwk-x3.ensures, c.byte-x2.ensures, c.nwk-x1.ensures, c.nwk-x0.ensures)
