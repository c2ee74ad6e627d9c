-- Each case is said as the definition says it; the update's numbers come after the others.
use mathlib.Core.Path.{◌∙◌}
use Rattle.numbers.proofs.Pushed.{put_both}
use Rattle.route_answers.proofs.reply_answer.Goals as goal

pub returns-in-Err : goal.returns-in-Err
returns-in-Err c = c.refused.ensures ∙ rw c.in-Err.is

pub returns-in-Ok : goal.returns-in-Ok
returns-in-Ok c = c.answered.ensures ∙ rw (c.push_update.ensures, c.push_disposition-m.ensures, c.none-n.ensures, c.in-Ok.is, put_both)
