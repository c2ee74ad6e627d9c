-- The call is made with what the numbers give, and its outcome said.
use mathlib.Core.Path.{◌∙◌}
use Rattle.routing_groups.specs.Changed.{note_relayed_discovery_call}
use Rattle.routing_groups.proofs.changes.note_relayed_discovery.Goals as goal

pub returns : goal.returns
unfolding note_relayed_discovery_call
returns c = c.done_reply.ensures ∙ rw (c.note_relayed_discovery-o.ensures, c.nwk-x0.ensures)
