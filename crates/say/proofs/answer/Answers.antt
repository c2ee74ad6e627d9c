-- The kind chooses the word, and whether there are numbers.
-- Assumes nothing.
use borrow.Author.Tests.{eq-eqb, ne_eqb}
use Rattle.words.specs.Text.{bytes}
use Rattle.say.specs.Text.{answer_line}
use Rattle.say.proofs.answer.Goals as goal

pub returns-then-kind-eq0 : goal.returns-then-kind-eq0
unfolding answer_line bytes
returns-then-kind-eq0 c = rw (eq-eqb _ _ c.if-kind-eq0.true) c.put_line.ensures

pub returns-then-kind-eq1 : goal.returns-then-kind-eq1
unfolding answer_line bytes
returns-then-kind-eq1 c = rw (ne_eqb _ _ c.if-kind-eq0.false, eq-eqb _ _ c.if-kind-eq1.true) c.put_line-then-kind-eq1.ensures

pub returns : goal.returns
unfolding answer_line bytes
returns c = rw (ne_eqb _ _ c.if-kind-eq0.false, ne_eqb _ _ c.if-kind-eq1.false) c.put_line-2.ensures
