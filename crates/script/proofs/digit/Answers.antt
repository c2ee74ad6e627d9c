-- A digit is at least 48, the code of `0`.
-- Assumes nothing.
use mathlib.Core.Path.{sym, ◌∙◌}
use borrow.Author.Tests.{eq-eqb, ne_eqb, not-true, not-false}
use Rattle.script.specs.Reading.{digit}
use Rattle.script.proofs.Steps.{digit_low}
use native.Mathlib.Omega.{arith}
use Rattle.script.proofs.digit.Goals as goal

pub returns-then-b-eq32 : goal.returns-then-b-eq32
unfolding digit
returns-then-b-eq32 c = rw (eq-eqb _ _ c.if-b-eq32.true) c.turned.ensures

pub returns-then-not-is_digit : goal.returns-then-not-is_digit
unfolding digit
returns-then-not-is_digit c = rw (ne_eqb _ _ c.if-b-eq32.false, sym c.is_digit.ensures ∙ not-true _ c.if-not-is_digit.true-raw) c.turned-then-not-is_digit.ensures

pub overflow_sub-b : goal.overflow_sub-b
overflow_sub-b c = omega (arith, digit_low c.args.b (sym c.is_digit.ensures ∙ not-false _ c.if-not-is_digit.false-raw))

pub returns : goal.returns
unfolding digit
returns c = rw (ne_eqb _ _ c.if-b-eq32.false, sym c.is_digit.ensures ∙ not-false _ c.if-not-is_digit.false-raw) c.grown.ensures
