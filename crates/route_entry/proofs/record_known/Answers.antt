-- One test, the definition's.
-- Assumes nothing.
use Rattle.route_entry.proofs.record_known.Goals as goal

pub returns-then-e : goal.returns-then-e
returns-then-e c = rw c.if-e.true

pub returns : goal.returns
returns c = rw c.if-e.false
