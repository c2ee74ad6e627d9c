-- The call is made, and its outcome said.
use mathlib.Core.Path.{◌∙◌}
use Rattle.routing_groups.specs.Changed.{decay_activity_call}
use Rattle.routing_groups.proofs.changes.decay_activity.Goals as goal

pub returns : goal.returns
unfolding decay_activity_call
returns c = c.done_reply.ensures ∙ rw c.decay_activity-o.ensures
