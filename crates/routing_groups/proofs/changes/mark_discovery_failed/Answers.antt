-- The call is made with what the numbers give, and its outcome said.
use mathlib.Core.Path.{◌∙◌}
use Rattle.routing_groups.specs.Changed.{mark_discovery_failed_call}
use Rattle.routing_groups.proofs.changes.mark_discovery_failed.Goals as goal

pub returns : goal.returns
unfolding mark_discovery_failed_call
returns c = c.done_reply.ensures ∙ rw (c.mark_discovery_failed-o.ensures, c.nwk-x0.ensures)
