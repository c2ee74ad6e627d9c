-- Each case is said as the definition says it.
use mathlib.Core.Path.{◌∙◌}
use Rattle.route_answers.proofs.told_answer.Goals as goal

pub returns-in-Err : goal.returns-in-Err
returns-in-Err c = c.refused.ensures ∙ rw c.in-Err.is

pub returns-in-Ok : goal.returns-in-Ok
returns-in-Ok c = c.said.ensures ∙ rw (c.flag_number-x.ensures, c.in-Ok.is)
