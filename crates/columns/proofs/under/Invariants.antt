-- The answer so far tells of the places passed.
use Prim.Native.Nat.{ℕ, ◌<◌, ◌≤◌}
use lib.ListN.{length, get_or}
use Rattle.standard.specs.Tells.{Tells}
use Rattle.columns.proofs.Tested.{Passed}
use Rattle.columns.proofs.under.Given as goal

abbrev pub invariant-loop-x : goal.invariant-loop-x
invariant-loop-x g l = (l.x-index ≤ length l.a) × Tells (Passed (λ (j : ℕ). get_or (g.T.Number.nats l.a) j 0 < g.T.Number.nat l.m) 0 l.x-index) l.ok
