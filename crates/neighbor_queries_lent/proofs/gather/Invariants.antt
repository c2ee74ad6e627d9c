-- What is written after the places passed, of any table whose rows the closures tell of; no more is written than places passed.
use Prim.Native.Nat.{◌≤◌}
use Rattle.neighbor_queries_lent.proofs.Loops.{Gathering}
use Rattle.neighbor_queries_lent.proofs.gather.Given as goal

abbrev pub invariant-loop-i : goal.invariant-loop-i
invariant-loop-i g l = (l.n ≤ l.i) × Gathering (goal.F-post g l.fits) (goal.G-post g l.read) l.count l.initial.out l.i l.out l.n
