-- Case by case.
use Rattle.std.specs.Prelude.{Result}
use mathlib.Core.Path.{sym, ap, ◌∙◌}
use Rattle.neighbor_answers.specs.Answers.{statuses_said}
use Rattle.neighbor_queries.specs.declared.LinkStatusList.{LinkStatusList}
use Rattle.numbers.specs.Said.{spoken}
use Rattle.types.specs.declared.Refusal.{Refusal}
use Rattle.neighbor_answers.proofs.statuses_answer.Goals as goal

pub returns-in-Ok : goal.returns-in-Ok
returns-in-Ok c = rw (c.answered.ensures, c.push_statuses.ensures, c.none-n.ensures) (ap (λ (a : Result LinkStatusList Refusal). spoken (statuses_said a)) (sym c.in-Ok.is))

pub returns-in-Err : goal.returns-in-Err
returns-in-Err c = c.refused.ensures ∙ ap (λ (a : Result LinkStatusList Refusal). spoken (statuses_said a)) (sym c.in-Err.is)
