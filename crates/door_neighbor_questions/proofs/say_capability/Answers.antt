-- Case by case, as the definition goes.
use Rattle.std.specs.Prelude.{Ok}
use mathlib.Core.Path.{refl, sym, ap, ◌∙◌}
use Rattle.door.proofs.Lent.{says-as}
use Rattle.door_neighbor_questions.specs.Questions.{capability_at}
use Rattle.door_neighbor_questions.proofs.say_capability.Goals as goal

pub returns-in-Ok-Some : goal.returns-in-Ok-Some
returns-in-Ok-Some c = says-as (sym (c.in-Ok-Some.is ∙ ap Ok (rw c.in-Ok-Some.is at c.in-Ok-Some.field-0-is))) (record { status = refl; places = λ z. capability_at 1 (c.number.ensures z) (c.flag.ensures z) })

pub returns-in-Ok-None : goal.returns-in-Ok-None
returns-in-Ok-None c = says-as (sym (c.in-Ok-None.is ∙ ap Ok (rw c.in-Ok-None.is at c.in-Ok-None.field-0-is))) (record { status = refl; places = refl })

pub returns-in-Err : goal.returns-in-Err
returns-in-Err c = says-as (sym c.in-Err.is) (record { status = c.number-in-Err.ensures; places = refl })
