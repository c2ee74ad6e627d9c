-- Each case has its own numbers.
use mathlib.Core.Path.{◌∙◌}
use Rattle.route_answers.proofs.push_disposition.Goals as goal

pub returns-in-Drop : goal.returns-in-Drop
returns-in-Drop c = c.push.ensures ∙ rw c.in-Drop.is

pub returns-in-Established : goal.returns-in-Established
returns-in-Established c = c.push-in-Established.ensures ∙ rw c.in-Established.is

pub returns-in-Relay : goal.returns-in-Relay
returns-in-Relay c = c.push_each.ensures ∙ rw c.in-Relay.is
