-- `types::time_sum` meets its contract: a span is at most what the clock has left exactly where the sum is at most its last
-- moment, so the code's test and the definition's test agree.
use Prim.Native.Nat.{◌+◌}
use native.Mathlib.Omega.{arith}
use borrow.Author.Tests.{le-leb, lt-leb}
use Rattle.types.specs.Clock.{last_time}
use Rattle.types.proofs.time_sum.Goals as goal

pub returns-then-span-now : goal.returns-then-span-now
returns-then-span-now c =
    let a = c.args in
    rw (le-leb (a.now + a.span) last_time (omega arith))

pub returns-else-span-now : goal.returns-else-span-now
returns-else-span-now c =
    let a = c.args in
    rw (lt-leb (a.now + a.span) last_time (omega arith))
