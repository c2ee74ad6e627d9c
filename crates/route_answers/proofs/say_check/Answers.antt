-- Each case has its own numbers.
use mathlib.Core.Path.{◌∙◌}
use Rattle.route_answers.proofs.say_check.Goals as goal

pub returns-in-Sound : goal.returns-in-Sound
returns-in-Sound c = c.said.ensures ∙ rw c.in-Sound.is

pub returns-in-UnknownHop : goal.returns-in-UnknownHop
returns-in-UnknownHop c = c.said-in-UnknownHop.ensures ∙ rw c.in-UnknownHop.is

pub returns-in-Orphan : goal.returns-in-Orphan
returns-in-Orphan c = c.said-in-Orphan.ensures ∙ rw c.in-Orphan.is
