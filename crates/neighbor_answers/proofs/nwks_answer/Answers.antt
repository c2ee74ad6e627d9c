-- Case by case.
use Rattle.std.specs.Prelude.{Result}
use mathlib.Core.Path.{sym, ap, ◌∙◌}
use Rattle.neighbor_answers.specs.Answers.{nwks_said}
use Rattle.neighbor_queries.specs.declared.NwkList.{NwkList}
use Rattle.numbers.specs.Said.{spoken}
use Rattle.types.specs.declared.Refusal.{Refusal}
use Rattle.neighbor_answers.proofs.nwks_answer.Goals as goal

pub returns-in-Ok : goal.returns-in-Ok
returns-in-Ok c = rw (c.answered.ensures, c.push_nwks.ensures, c.none-n.ensures) (ap (λ (a : Result NwkList Refusal). spoken (nwks_said a)) (sym c.in-Ok.is))

pub returns-in-Err : goal.returns-in-Err
returns-in-Err c = c.refused.ensures ∙ ap (λ (a : Result NwkList Refusal). spoken (nwks_said a)) (sym c.in-Err.is)
