-- Case by case.
use Rattle.std.specs.Prelude.{Result, Bool}
use Prim.Native.Nat.{ℕ}
use mathlib.Core.List.{[], ◌∷◌}
use mathlib.Core.Path.{sym, ap, ◌∙◌}
use Rattle.neighbor_answers.specs.Answers.{truth_said}
use Rattle.numbers.specs.Said.{ok, spoken}
use Rattle.neighbor_answers.proofs.truth_answer.Goals as goal
use Rattle.types.specs.declared.Refusal.{Refusal}

pub returns-in-Ok : goal.returns-in-Ok
returns-in-Ok c = c.one.ensures ∙ ap (λ (n : ℕ). spoken (ok (n ∷ []))) c.flag_number.ensures ∙ ap (λ (a : Result Bool Refusal). spoken (truth_said a)) (sym c.in-Ok.is)

pub returns-in-Err : goal.returns-in-Err
returns-in-Err c = c.refused.ensures ∙ ap (λ (a : Result Bool Refusal). spoken (truth_said a)) (sym c.in-Err.is)
