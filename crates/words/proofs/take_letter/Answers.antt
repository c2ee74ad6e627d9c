-- The letter allows the value and is passed, or nothing fits any more.
-- Assumes nothing.
use mathlib.Core.Path.{refl, sym, ◌∙◌}
use borrow.Author.Tests.{not-true, not-false}
use Rattle.words.proofs.Fit.{past-taken, wrong-taken, right-taken}
use native.Mathlib.Omega.{arith}
use Rattle.words.proofs.take_letter.Goals as goal

pub returns-then-shape-at : goal.returns-then-shape-at
returns-then-shape-at c =
    λ xs. past-taken c.args.shape.now c.args.w c.bad.result c.args.x xs c.requires c.if-shape-at.true c.bad.ensures

pub returns-then-not-within : goal.returns-then-not-within
returns-then-not-within c =
    λ xs.
    wrong-taken c.args.shape.now c.args.w c.bad-then-not-within.result c.args.x xs c.requires (omega arith)
    (sym c.within.ensures ∙ not-true _ c.if-not-within.true-raw) c.bad-then-not-within.ensures

pub items-requires : goal.items-requires
items-requires c = sym c.within.ensures ∙ not-false _ c.if-not-within.false-raw

pub returns : goal.returns
returns c =
    λ xs.
    rw (c.ahead.ensures, c.passes.ensures, c.items.ensures)
    (right-taken c.args.shape.now c.args.w _ c.args.x xs c.requires (omega arith)
    (sym c.within.ensures ∙ not-false _ c.if-not-within.false-raw) refl)
