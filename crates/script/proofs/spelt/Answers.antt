-- The word is full at 40 bytes.
-- Assumes nothing.
use borrow.Author.Tests.{lt-ltb, le-ltb}
use Rattle.script.specs.Reading.{spelt}
use Rattle.script.proofs.spelt.Goals as goal

pub returns-then-at-ge40 : goal.returns-then-at-ge40
unfolding spelt
returns-then-at-ge40 c = rw (le-ltb _ _ c.if-at-ge40.true) c.turned.ensures

pub returns : goal.returns
unfolding spelt
returns c = rw (lt-ltb _ _ c.if-at-ge40.false)
