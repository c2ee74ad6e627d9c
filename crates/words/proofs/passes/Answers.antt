-- The tests are the definition's.
-- Assumes nothing.
use borrow.Author.Tests.{eq-eqb, ne_eqb}
use Rattle.words.specs.Shape.{passes}
use Rattle.words.proofs.passes.Goals as goal

pub returns-then-x-eq0 : goal.returns-then-x-eq0
unfolding passes
returns-then-x-eq0 c = rw (eq-eqb _ _ c.if-l-eq63.true, eq-eqb _ _ c.if-x-eq0.true)

pub returns-else-x-eq0 : goal.returns-else-x-eq0
unfolding passes
returns-else-x-eq0 c = rw (eq-eqb _ _ c.if-l-eq63.true, ne_eqb _ _ c.if-x-eq0.false)

pub returns-then-x-eq0-2 : goal.returns-then-x-eq0-2
unfolding passes
returns-then-x-eq0-2 c = rw (ne_eqb _ _ c.if-l-eq63.false, eq-eqb _ _ c.if-l-eq33.true, eq-eqb _ _ c.if-x-eq0-2.true)

pub returns-else-x-eq0-2 : goal.returns-else-x-eq0-2
unfolding passes
returns-else-x-eq0-2 c = rw (ne_eqb _ _ c.if-l-eq63.false, eq-eqb _ _ c.if-l-eq33.true, ne_eqb _ _ c.if-x-eq0-2.false)

pub returns-then-l-eq109 : goal.returns-then-l-eq109
unfolding passes
returns-then-l-eq109 c = rw (ne_eqb _ _ c.if-l-eq63.false, ne_eqb _ _ c.if-l-eq33.false, eq-eqb _ _ c.if-l-eq109.true) c.passes_mode.ensures

pub returns-then-l-eq65 : goal.returns-then-l-eq65
unfolding passes
returns-then-l-eq65 c = rw (ne_eqb _ _ c.if-l-eq63.false, ne_eqb _ _ c.if-l-eq33.false, ne_eqb _ _ c.if-l-eq109.false, eq-eqb _ _ c.if-l-eq65.true)

pub returns-else-l-eq65 : goal.returns-else-l-eq65
unfolding passes
returns-else-l-eq65 c = rw (ne_eqb _ _ c.if-l-eq63.false, ne_eqb _ _ c.if-l-eq33.false, ne_eqb _ _ c.if-l-eq109.false, ne_eqb _ _ c.if-l-eq65.false)
