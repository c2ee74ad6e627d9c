-- The tests are the definition's.
-- Assumes nothing.
use borrow.Author.Tests.{eq-eqb, ne_eqb}
use Rattle.words.specs.Shape.{item}
use Rattle.words.proofs.item.Goals as goal

pub returns-then-p-eq0 : goal.returns-then-p-eq0
unfolding item
returns-then-p-eq0 c = rw (eq-eqb _ _ c.if-kind-eq108.true, eq-eqb _ _ c.if-p-eq0.true)

pub returns-else-p-eq0 : goal.returns-else-p-eq0
unfolding item
returns-else-p-eq0 c = rw (eq-eqb _ _ c.if-kind-eq108.true, ne_eqb _ _ c.if-p-eq0.false)

pub returns-then-kind-eq110 : goal.returns-then-kind-eq110
unfolding item
returns-then-kind-eq110 c = rw (ne_eqb _ _ c.if-kind-eq108.false, eq-eqb _ _ c.if-kind-eq110.true)

pub returns-else-kind-eq110 : goal.returns-else-kind-eq110
unfolding item
returns-else-kind-eq110 c = rw (ne_eqb _ _ c.if-kind-eq108.false, ne_eqb _ _ c.if-kind-eq110.false)
