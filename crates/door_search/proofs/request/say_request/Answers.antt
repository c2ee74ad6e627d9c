-- The answer decides, as the definition goes.
use mathlib.Core.Path.{refl, sym}
use Rattle.door.proofs.Lent.{says-as}
use Rattle.door_search.proofs.request.say_request.Goals as goal

pub returns-in-Err : goal.returns-in-Err
returns-in-Err c = says-as (sym c.in-Err.is) (record { status = c.number.ensures; places = refl })

pub returns-in-Ok : goal.returns-in-Ok
returns-in-Ok c = says-as (sym c.in-Ok.is) (record { status = refl; places = λ z. record { accepted = c.flag.ensures z; update = c.update_places-y.ensures z } })
