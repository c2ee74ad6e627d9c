-- By what the place is.
use Rattle.std.specs.Prelude.{Result, ℕ}
use mathlib.Core.Path.{sym, ap}
use Rattle.columns.specs.Room.{room_for}
use Rattle.columns.proofs.has_room.Goals as goal

pub returns-in-Err : goal.returns-in-Err
returns-in-Err c = ap (λ (p : Result ℕ ℕ). room_for p c.args.count c.args.cap) (sym c.in-Err.is)
