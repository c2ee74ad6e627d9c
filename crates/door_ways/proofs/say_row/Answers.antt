-- What stands there decides, as the definition goes.
use Rattle.std.specs.Prelude.{Option, Ok}
use mathlib.Core.Path.{refl, sym, ap}
use Rattle.door.proofs.Lent.{says-as}
use Rattle.door_ways.specs.Rows.{row_beside}
use Rattle.door_ways.proofs.say_row.Goals as goal
use Rattle.standard.specs.declared.RecordEntry.{RecordEntry}

pub returns-in-None : goal.returns-in-None
returns-in-None c = says-as (ap (λ (x : Option RecordEntry). row_beside (Ok x) c.args.list) (sym c.in-None.is)) (record { status = refl; places = c.write_relayed.ensures })

pub returns-in-Some : goal.returns-in-Some
returns-in-Some c = says-as (ap (λ (x : Option RecordEntry). row_beside (Ok x) c.args.list) (sym c.in-Some.is)) (record { status = refl; places = c.write_relayed-in-Some.ensures })
