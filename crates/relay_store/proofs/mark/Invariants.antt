-- At each turn the row is marked as far as one place more, and the places after it are as they were.
use Rattle.relay_store.proofs.Agree.{Marking}
use Rattle.relay_store.proofs.mark.Given as goal

abbrev pub invariant-loop-j : goal.invariant-loop-j
invariant-loop-j l = Marking l.initial.over l.row l.mask l.over l.j
