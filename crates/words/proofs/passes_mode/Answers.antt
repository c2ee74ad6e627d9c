-- The tests are the definition's.
-- Assumes nothing.
use borrow.Author.Tests.{lt-ltb, le-ltb, eq-eqb, ne_eqb}
use Rattle.words.specs.Shape.{passes_mode}
use Rattle.words.proofs.passes_mode.Goals as goal

pub returns-then-x-lt2 : goal.returns-then-x-lt2
unfolding passes_mode
returns-then-x-lt2 c = rw (lt-ltb _ _ c.if-x-lt2.true)

pub returns-then-x-eq0 : goal.returns-then-x-eq0
unfolding passes_mode
returns-then-x-eq0 c = rw (le-ltb _ _ c.if-x-lt2.false, eq-eqb _ _ c.if-x-eq0.true)

pub returns-else-x-eq0 : goal.returns-else-x-eq0
unfolding passes_mode
returns-else-x-eq0 c = rw (le-ltb _ _ c.if-x-lt2.false, ne_eqb _ _ c.if-x-eq0.false)
