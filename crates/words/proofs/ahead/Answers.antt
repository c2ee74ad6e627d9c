-- The one test is the definition's.
-- Assumes nothing.
use borrow.Author.Tests.{lt-ltb, le-ltb}
use Rattle.words.specs.Fitting.{ahead}
use Rattle.words.proofs.ahead.Goals as goal

pub returns-then-end-at : goal.returns-then-end-at
unfolding ahead
returns-then-end-at c = rw (lt-ltb _ _ c.if-end-at.true)

pub returns-else-end-at : goal.returns-else-end-at
unfolding ahead
returns-else-end-at c = rw (le-ltb _ _ c.if-end-at.false)
