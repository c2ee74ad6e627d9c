-- Each case has its own numbers.
use mathlib.Core.Path.{◌∙◌}
use Rattle.route_answers.proofs.say_deadline.Goals as goal

pub returns-in-None : goal.returns-in-None
returns-in-None c = c.said.ensures ∙ rw c.in-None.is

pub returns-in-Some : goal.returns-in-Some
returns-in-Some c = c.said-in-Some.ensures ∙ rw c.in-Some.is
