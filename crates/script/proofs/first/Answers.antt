-- The line's first byte: the tests are the definition's.
-- Assumes nothing.
use mathlib.Core.Path.{sym, ◌∙◌}
use borrow.Author.Tests.{eq-eqb, ne_eqb}
use Rattle.script.specs.Reading.{first}
use Rattle.script.proofs.first.Goals as goal

pub returns-then-b-eq35 : goal.returns-then-b-eq35
unfolding first
returns-then-b-eq35 c = rw (eq-eqb _ _ c.if-b-eq35.true) c.turned.ensures

pub returns-then-is_letter : goal.returns-then-is_letter
unfolding first
returns-then-is_letter c = rw (ne_eqb _ _ c.if-b-eq35.false, sym c.is_letter.ensures ∙ c.if-is_letter.true) c.spelt.ensures

pub returns : goal.returns
unfolding first
returns c = rw (ne_eqb _ _ c.if-b-eq35.false, sym c.is_letter.ensures ∙ c.if-is_letter.false) c.turned-2.ensures
