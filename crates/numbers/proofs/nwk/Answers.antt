-- The number of 16 bits is the address.
use Prim.Native.Nat.{ℕ}
use mathlib.Core.Path.{ap}
use Rattle.numbers.proofs.nwk.Goals as goal

pub returns : goal.returns
returns c = ap (λ (n : ℕ). record { 0 = n }) c.short.ensures
