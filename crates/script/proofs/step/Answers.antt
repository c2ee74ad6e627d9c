-- Each arm is the function of its place in the line.
-- Assumes nothing.
use borrow.Author.Tests.{eq-eqb, ne_eqb}
use Rattle.script.specs.Reading.{step}
use Rattle.script.proofs.step.Goals as goal

pub returns-then-mode-eq-FRESH : goal.returns-then-mode-eq-FRESH
unfolding step
returns-then-mode-eq-FRESH c = rw (eq-eqb _ _ c.if-mode-eq-FRESH.true) c.first.ensures

pub returns-then-mode-eq-IN_WORD : goal.returns-then-mode-eq-IN_WORD
unfolding step
returns-then-mode-eq-IN_WORD c = rw (ne_eqb _ _ c.if-mode-eq-FRESH.false, eq-eqb _ _ c.if-mode-eq-IN_WORD.true) c.letter.ensures

pub returns-then-mode-eq-AFTER_SPACE : goal.returns-then-mode-eq-AFTER_SPACE
unfolding step
returns-then-mode-eq-AFTER_SPACE c = rw (ne_eqb _ _ c.if-mode-eq-FRESH.false, ne_eqb _ _ c.if-mode-eq-IN_WORD.false, eq-eqb _ _ c.if-mode-eq-AFTER_SPACE.true) c.start.ensures

pub returns-then-mode-eq-IN_NUMBER : goal.returns-then-mode-eq-IN_NUMBER
unfolding step
returns-then-mode-eq-IN_NUMBER c = rw (ne_eqb _ _ c.if-mode-eq-FRESH.false, ne_eqb _ _ c.if-mode-eq-IN_WORD.false, ne_eqb _ _ c.if-mode-eq-AFTER_SPACE.false, eq-eqb _ _ c.if-mode-eq-IN_NUMBER.true) c.digit.ensures

pub returns : goal.returns
unfolding step
returns c = rw (ne_eqb _ _ c.if-mode-eq-FRESH.false, ne_eqb _ _ c.if-mode-eq-IN_WORD.false, ne_eqb _ _ c.if-mode-eq-AFTER_SPACE.false, ne_eqb _ _ c.if-mode-eq-IN_NUMBER.false)
