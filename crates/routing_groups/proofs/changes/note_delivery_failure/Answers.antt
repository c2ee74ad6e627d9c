-- The call is made with what the numbers give, and its outcome said.
use mathlib.Core.Path.{◌∙◌}
use Rattle.routing_groups.specs.Changed.{note_delivery_failure_call}
use Rattle.routing_groups.proofs.changes.note_delivery_failure.Goals as goal

pub returns : goal.returns
unfolding note_delivery_failure_call
returns c = c.told_reply.ensures ∙ rw (c.note_delivery_failure-o.ensures, c.byte-x0.ensures)
