-- The call is made with what the numbers give, and its outcome said.
use mathlib.Core.Path.{◌∙◌}
use Rattle.routing_groups.specs.Changed.{note_source_routed_frame_call}
use Rattle.routing_groups.proofs.changes.note_source_routed_frame.Goals as goal

pub returns : goal.returns
unfolding note_source_routed_frame_call
returns c = c.done_reply.ensures ∙ rw (c.note_source_routed_frame-o.ensures, c.nwk-x0.ensures)
