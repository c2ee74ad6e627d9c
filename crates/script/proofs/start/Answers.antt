-- A digit is at least 48, the code of `0`.
-- Assumes nothing.
use mathlib.Core.Path.{sym, ◌∙◌}
use borrow.Author.Tests.{not-true, not-false}
use Rattle.script.specs.Reading.{start}
use Rattle.script.proofs.Steps.{digit_low}
use native.Mathlib.Omega.{arith}
use Rattle.script.proofs.start.Goals as goal

pub returns-then-not-is_digit : goal.returns-then-not-is_digit
unfolding start
returns-then-not-is_digit c = rw (sym c.is_digit.ensures ∙ not-true _ c.if-not-is_digit.true-raw) c.turned.ensures

pub overflow_sub-b : goal.overflow_sub-b
overflow_sub-b c = omega (arith, digit_low c.args.b (sym c.is_digit.ensures ∙ not-false _ c.if-not-is_digit.false-raw))

pub returns : goal.returns
unfolding start
returns c = rw (sym c.is_digit.ensures ∙ not-false _ c.if-not-is_digit.false-raw) c.opened.ensures
