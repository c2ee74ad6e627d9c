-- The answer so far tells of the places passed.
use Prim.Native.Nat.{ℕ}
use mathlib.Core.Path.{◌≡◌}
use lib.ListN.{get_or}
use Rattle.standard.specs.Tells.{Tells}
use Rattle.columns.proofs.Tested.{Passed}
use Rattle.columns.proofs.zero_from.Given as goal

abbrev pub invariant-loop-i : goal.invariant-loop-i
invariant-loop-i g l = Tells (Passed (λ (j : ℕ). get_or (g.T.Number.nats l.a) j 0 ≡ 0) l.n l.i) l.ok
