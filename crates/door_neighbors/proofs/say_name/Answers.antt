-- Case by case, as the definition goes.
use Rattle.std.specs.Prelude.{Ok, Some, None}
use mathlib.Core.Path.{◌≡◌, refl, sym}
use borrow.Author.Rules.{rules}
use Rattle.door.proofs.Lent.{says-as}
use Rattle.door_neighbors.proofs.say_name.Goals as goal

pub returns-in-Ok-Some : goal.returns-in-Ok-Some
returns-in-Ok-Some c =
    let e : Ok (Some c.in-Ok-Some.x) ≡ c.args.answer = search rules in
    says-as e (record { status = refl; places = refl })

pub returns-in-Ok-None : goal.returns-in-Ok-None
returns-in-Ok-None c =
    let e : Ok None ≡ c.args.answer = search rules in
    says-as e (record { status = refl; places = refl })

pub returns-in-Err : goal.returns-in-Err
returns-in-Err c = says-as (sym c.in-Err.is) (record { status = c.number.ensures; places = refl })
