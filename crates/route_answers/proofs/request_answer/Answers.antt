-- Each case is said as the definition says it; the update's numbers come after the first.
use mathlib.Core.Path.{◌∙◌}
use Rattle.route_answers.proofs.request_answer.Goals as goal

pub returns-in-Err : goal.returns-in-Err
returns-in-Err c = c.refused.ensures ∙ rw c.in-Err.is

pub returns-in-Ok : goal.returns-in-Ok
returns-in-Ok c = c.answered.ensures ∙ rw (c.push_update.ensures, c.push-m.ensures, c.flag_number.ensures, c.none-n.ensures, c.in-Ok.is)
