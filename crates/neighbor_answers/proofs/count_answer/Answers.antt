-- Case by case.
use Rattle.std.specs.Prelude.{Result, ℕ}
use mathlib.Core.Path.{sym, ap, ◌∙◌}
use Rattle.neighbor_answers.specs.Answers.{count_said}
use Rattle.numbers.specs.Said.{spoken}
use Rattle.neighbor_answers.proofs.count_answer.Goals as goal
use Rattle.types.specs.declared.Refusal.{Refusal}

pub returns-in-Ok : goal.returns-in-Ok
returns-in-Ok c = c.one.ensures ∙ ap (λ (a : Result ℕ Refusal). spoken (count_said a)) (sym c.in-Ok.is)

pub returns-in-Err : goal.returns-in-Err
returns-in-Err c = c.refused.ensures ∙ ap (λ (a : Result ℕ Refusal). spoken (count_said a)) (sym c.in-Err.is)
