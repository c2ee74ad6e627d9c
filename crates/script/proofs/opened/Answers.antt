-- There is no place after 256 numbers.
-- Assumes nothing.
use borrow.Author.Tests.{lt-ltb, le-ltb}
use Rattle.script.specs.Reading.{opened}
use Rattle.script.proofs.opened.Goals as goal

pub returns-then-at-ge256 : goal.returns-then-at-ge256
unfolding opened
returns-then-at-ge256 c = rw (le-ltb _ _ c.if-at-ge256.true) c.turned.ensures

pub returns : goal.returns
unfolding opened
returns c = rw (lt-ltb _ _ c.if-at-ge256.false)
