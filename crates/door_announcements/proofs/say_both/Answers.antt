-- The answer decides, as the definition goes.
use Rattle.std.specs.Prelude.{Result}
use mathlib.Core.Path.{refl, sym, ap}
use Rattle.door.proofs.Lent.{says-as}
use Rattle.door_announcements.specs.Announced.{both_lists}
use Rattle.door_announcements.proofs.say_both.Goals as goal
use Rattle.types.specs.declared.Refusal.{Refusal}

pub returns-in-Ok : goal.returns-in-Ok
returns-in-Ok c = says-as (ap (λ (a : Result Unit Refusal). both_lists a c.args.claims c.args.removed) (sym c.in-Ok.is)) (record { status = refl; places = λ z. record { claimed = c.write_names.ensures z; removed = c.write_children.ensures z } })

pub returns-in-Err : goal.returns-in-Err
returns-in-Err c = says-as (ap (λ (a : Result Unit Refusal). both_lists a c.args.claims c.args.removed) (sym c.in-Err.is)) (record { status = c.number.ensures; places = refl })
