-- The byte at the place, where there is one.
-- Assumes nothing.
use mathlib.Core.Path.{sym}
use Rattle.words.proofs.Fit.{end-here, end_none}
use native.Mathlib.Omega.{arith}
use Rattle.words.proofs.is_end.Goals as goal

pub returns-then-shape-at : goal.returns-then-shape-at
returns-then-shape-at c = sym (end_none c.args.shape.now c.args.at c.if-shape-at.true)

pub returns : goal.returns
returns c =
    let a = c.args in
    sym (end-here a.shape.now a.at (omega arith))
