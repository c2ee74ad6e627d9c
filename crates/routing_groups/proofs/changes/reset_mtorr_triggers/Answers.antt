-- The call is made, and its outcome said.
use mathlib.Core.Path.{◌∙◌}
use Rattle.routing_groups.specs.Changed.{reset_mtorr_triggers_call}
use Rattle.routing_groups.proofs.changes.reset_mtorr_triggers.Goals as goal

pub returns : goal.returns
unfolding reset_mtorr_triggers_call
returns c = c.done_reply.ensures ∙ rw c.reset_mtorr_triggers-o.ensures
