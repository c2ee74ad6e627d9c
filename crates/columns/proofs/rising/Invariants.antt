-- The answer so far tells of the steps passed: place i has been compared with the one before it.
use Prim.Native.Nat.{◌-◌}
use Rattle.standard.specs.Tells.{Tells}
use Rattle.columns.proofs.Tested.{Passed, Steps}
use Rattle.columns.proofs.rising.Given as goal

abbrev pub invariant-loop-i : goal.invariant-loop-i
invariant-loop-i g l = Tells (Passed (Steps (g.T.Number.nats l.keys) l.count) 0 (l.i - 1)) l.ok
