-- The tests are the definition's.
-- Assumes nothing.
use mathlib.Core.Path.{sym, ◌∙◌}
use borrow.Author.Tests.{eq-eqb, ne_eqb}
use Rattle.script.specs.Reading.{letter}
use Rattle.script.proofs.letter.Goals as goal

pub returns-then-b-eq32 : goal.returns-then-b-eq32
unfolding letter
returns-then-b-eq32 c = rw (eq-eqb _ _ c.if-b-eq32.true) c.turned.ensures

pub returns-then-is_letter : goal.returns-then-is_letter
unfolding letter
returns-then-is_letter c = rw (ne_eqb _ _ c.if-b-eq32.false, sym c.is_letter.ensures ∙ c.if-is_letter.true) c.spelt.ensures

pub returns : goal.returns
unfolding letter
returns c = rw (ne_eqb _ _ c.if-b-eq32.false, sym c.is_letter.ensures ∙ c.if-is_letter.false) c.turned-2.ensures
