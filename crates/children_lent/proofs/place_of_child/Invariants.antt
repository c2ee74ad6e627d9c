-- No place passed is the child's, so the first that is is the first of all.
use Rattle.children_lent.proofs.Places.{Passed}
use Rattle.children_lent.proofs.place_of_child.Given as goal

abbrev pub invariant-loop-i : goal.invariant-loop-i
invariant-loop-i l = Passed l.nwks l.links l.nwk l.i
