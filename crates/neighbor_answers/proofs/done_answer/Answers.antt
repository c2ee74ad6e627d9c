-- Case by case.
use Rattle.std.specs.Prelude.{Result}
use mathlib.Core.Path.{sym, ap, ◌∙◌}
use Rattle.neighbor_answers.specs.Answers.{done_said}
use Rattle.numbers.specs.Said.{spoken}
use Rattle.neighbor_answers.proofs.done_answer.Goals as goal
use Rattle.types.specs.declared.Refusal.{Refusal}

pub returns-in-Ok : goal.returns-in-Ok
returns-in-Ok c = c.done.ensures ∙ ap (λ (a : Result Unit Refusal). spoken (done_said a)) (sym c.in-Ok.is)

pub returns-in-Err : goal.returns-in-Err
returns-in-Err c = c.refused.ensures ∙ ap (λ (a : Result Unit Refusal). spoken (done_said a)) (sym c.in-Err.is)
