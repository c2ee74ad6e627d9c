-- The call is made with what the numbers give, and its outcome said.
use mathlib.Core.Path.{◌∙◌}
use Rattle.routing_groups.specs.Changed.{invalidate_via_call}
use Rattle.routing_groups.proofs.changes.invalidate_via.Goals as goal

pub returns : goal.returns
unfolding invalidate_via_call
returns c = c.done_reply.ensures ∙ rw (c.invalidate_via-o.ensures, c.nwk-x0.ensures)
