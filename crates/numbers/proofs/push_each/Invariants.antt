-- What is put already, and the rest put after it, is the whole list put.
use Prim.Native.Nat.{◌≤◌}
use mathlib.Core.Path.{◌≡◌}
use lib.ListN.{length, drop}
use Rattle.numbers.specs.Said.{pushed_all}
use Rattle.numbers.proofs.push_each.Given as goal

abbrev pub invariant-loop-x : goal.invariant-loop-x
invariant-loop-x l = (l.x-index ≤ length l.xs) × (pushed_all l.m (drop l.x-index l.xs) ≡ pushed_all l.initial.m l.xs)
