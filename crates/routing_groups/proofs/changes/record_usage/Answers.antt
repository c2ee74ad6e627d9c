-- The call is made with what the numbers give, and its outcome said.
use mathlib.Core.Path.{◌∙◌}
use Rattle.routing_groups.specs.Changed.{record_usage_call}
use Rattle.routing_groups.proofs.changes.record_usage.Goals as goal

pub returns : goal.returns
unfolding record_usage_call
returns c = c.done_reply.ensures ∙ rw (c.record_usage-o.ensures, c.nwk-x0.ensures)
