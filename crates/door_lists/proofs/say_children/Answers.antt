-- The answer decides, as the definition goes.
use Rattle.std.specs.Prelude.{Result}
use mathlib.Core.Path.{refl, sym, ap}
use Rattle.door.proofs.Lent.{says-as}
use Rattle.neighbor_queries.specs.Answers.{with_list}
use Rattle.door_lists.proofs.say_children.Goals as goal
use Rattle.types.specs.declared.Refusal.{Refusal}

pub returns-in-Ok : goal.returns-in-Ok
returns-in-Ok c = says-as (ap (λ (a : Result Unit Refusal). with_list a c.args.list) (sym c.in-Ok.is)) (record { status = refl; places = c.write_children.ensures })

pub returns-in-Err : goal.returns-in-Err
returns-in-Err c = says-as (ap (λ (a : Result Unit Refusal). with_list a c.args.list) (sym c.in-Err.is)) (record { status = c.number.ensures; places = refl })
