-- The tests are the definition's.
-- Assumes nothing.
use borrow.Author.Tests.{eq-eqb, ne_eqb}
use Rattle.words.specs.Shape.{most}
use Rattle.words.proofs.most.Goals as goal

pub returns-then-l-is_option : goal.returns-then-l-is_option
unfolding most
returns-then-l-is_option c = rw (rw c.is_option.ensures at c.if-l-is_option.true)

pub returns-then-l-eq100 : goal.returns-then-l-eq100
unfolding most
returns-then-l-eq100 c = rw (rw c.is_option.ensures at c.if-l-is_option.false, eq-eqb _ _ c.if-l-eq100.true)

pub returns-then-l : goal.returns-then-l
unfolding most
returns-then-l c = rw (rw c.is_option.ensures at c.if-l-is_option.false, ne_eqb _ _ c.if-l-eq100.false, c.if-l.true)

pub returns-then-l-eq109 : goal.returns-then-l-eq109
unfolding most
returns-then-l-eq109 c = rw (rw c.is_option.ensures at c.if-l-is_option.false, ne_eqb _ _ c.if-l-eq100.false, c.if-l.false, eq-eqb _ _ c.if-l-eq109.true)

pub returns : goal.returns
unfolding most
returns c = rw (rw c.is_option.ensures at c.if-l-is_option.false, ne_eqb _ _ c.if-l-eq100.false, c.if-l.false, ne_eqb _ _ c.if-l-eq109.false) c.most_of_others.ensures
