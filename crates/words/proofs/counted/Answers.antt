-- The one test is the definition's.
-- Assumes nothing.
use Rattle.words.proofs.counted.Goals as goal

pub returns-then-over : goal.returns-then-over
returns-then-over c = rw c.if-over.true

pub returns-else-over : goal.returns-else-over
returns-else-over c = rw c.if-over.false
