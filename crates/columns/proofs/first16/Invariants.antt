-- The places passed have been walked through, and the first of them is kept.
use Rattle.columns.proofs.First.{Sought}
use Rattle.columns.proofs.first16.Given as goal

abbrev pub invariant-loop-i : goal.invariant-loop-i
invariant-loop-i l = Sought l.numbers l.count l.x l.i l.r
