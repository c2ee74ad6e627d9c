-- The number is compared with 0.
use Prim.Native.Nat.{ℕ}
use mathlib.Core.Bool.{not}
use mathlib.Core.Path.{ap}
use lib.Dec.{eqb}
use Rattle.numbers.proofs.flag.Goals as goal

pub returns : goal.returns
returns c = ap (λ (n : ℕ). not (eqb n 0)) c.at.ensures
