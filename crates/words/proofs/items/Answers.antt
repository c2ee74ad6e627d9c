-- A list of triples has at most 80, so the product fits.
-- Assumes nothing.
use borrow.Author.Tests.{eq-eqb, ne_eqb}
use Rattle.words.specs.Shape.{items}
use Rattle.words.proofs.Fit.{few}
use native.Mathlib.Omega.{arith}
use Rattle.words.proofs.items.Goals as goal

pub overflow_mul-result : goal.overflow_mul-result
overflow_mul-result c = omega (arith, few c.args.l c.args.x c.if-l-eq108.true c.requires)

pub returns-then-l-eq108 : goal.returns-then-l-eq108
unfolding items
returns-then-l-eq108 c = rw (eq-eqb _ _ c.if-l-eq108.true)

pub returns-then-l : goal.returns-then-l
unfolding items
returns-then-l c = rw (ne_eqb _ _ c.if-l-eq108.false, c.if-l.true)

pub returns-else-l : goal.returns-else-l
unfolding items
returns-else-l c = rw (ne_eqb _ _ c.if-l-eq108.false, c.if-l.false)
