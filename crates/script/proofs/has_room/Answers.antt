-- Ten times a number is above the largest number where the number is above its tenth part.
-- Assumes nothing.
use mathlib.Core.Path.{sym}
use Prim.Native.Nat.{◌+◌, ◌*◌}
use borrow.Author.Tests.{lt-leb}
use Rattle.script.proofs.Steps.{room}
use native.Mathlib.Omega.{arith}
use Rattle.script.proofs.has_room.Goals as goal

pub returns-then-v-gt1844674407370955161 : goal.returns-then-v-gt1844674407370955161
returns-then-v-gt1844674407370955161 c = sym (lt-leb (c.args.v * 10 + c.args.d) 18446744073709551615 (omega arith))

pub returns : goal.returns
returns c = room (c.args.v * 10) c.args.d 18446744073709551615 (omega arith)
