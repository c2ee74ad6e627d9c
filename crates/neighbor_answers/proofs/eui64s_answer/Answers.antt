-- Case by case.
use Rattle.std.specs.Prelude.{Result}
use mathlib.Core.Path.{sym, ap, ◌∙◌}
use Rattle.neighbor_answers.specs.Answers.{eui64s_said}
use Rattle.neighbor_queries.specs.declared.Eui64List.{Eui64List}
use Rattle.numbers.specs.Said.{spoken}
use Rattle.types.specs.declared.Refusal.{Refusal}
use Rattle.neighbor_answers.proofs.eui64s_answer.Goals as goal

pub returns-in-Ok : goal.returns-in-Ok
returns-in-Ok c = rw (c.answered.ensures, c.push_eui64s.ensures, c.none-n.ensures) (ap (λ (a : Result Eui64List Refusal). spoken (eui64s_said a)) (sym c.in-Ok.is))

pub returns-in-Err : goal.returns-in-Err
returns-in-Err c = c.refused.ensures ∙ ap (λ (a : Result Eui64List Refusal). spoken (eui64s_said a)) (sym c.in-Err.is)
