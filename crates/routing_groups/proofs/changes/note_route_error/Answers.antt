-- The call is made with what the numbers give, and its outcome said.
use mathlib.Core.Path.{◌∙◌}
use Rattle.routing_groups.specs.Changed.{note_route_error_call}
use Rattle.routing_groups.proofs.changes.note_route_error.Goals as goal

pub returns : goal.returns
unfolding note_route_error_call
returns c = c.told_reply.ensures ∙ rw (c.note_route_error-o.ensures, c.byte-x0.ensures)
