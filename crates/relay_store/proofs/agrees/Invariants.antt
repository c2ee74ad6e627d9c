-- What is gathered of the rows passed is zero exactly where each of them is zero after its record's relays, since a row is read through the
-- masks of its length. The measure is the rows left.
use Rattle.relay_store.specs.Store.{Masks}
use Rattle.relay_store.proofs.Agree.{Gathered}
use Rattle.relay_store.proofs.agrees.Given as goal

abbrev pub invariant-loop-i : goal.invariant-loop-i
invariant-loop-i l = Masks l.masks × Gathered l.lengths l.store l.over l.i
