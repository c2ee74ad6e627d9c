-- Before each turn the failures of the places passed are forgotten, in every table that has the column; the others stand as they were.
use Rattle.neighbor_changes_lent.proofs.Forgiven.{Forgiving}
use Rattle.neighbor_changes_lent.proofs.reset_transmit_failures.Given as goal

abbrev pub invariant-loop-i : goal.invariant-loop-i
invariant-loop-i l = Forgiving l.initial.counts l.count l.counts l.i
