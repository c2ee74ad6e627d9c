-- Case by case.
use Rattle.std.specs.Prelude.{Result}
use mathlib.Core.Path.{sym, ap, ◌∙◌}
use Rattle.neighbor_answers.specs.Answers.{told_by}
use Rattle.neighbor_answers.proofs.told.Goals as goal
use Rattle.types.specs.declared.Refusal.{Refusal}

pub returns-in-Ok : goal.returns-in-Ok
returns-in-Ok c = c.answered.ensures ∙ ap (λ (a : Result Unit Refusal). told_by a c.args.values) (sym c.in-Ok.is)

pub returns-in-Err : goal.returns-in-Err
returns-in-Err c = c.refused.ensures ∙ ap (λ (a : Result Unit Refusal). told_by a c.args.values) (sym c.in-Err.is)
