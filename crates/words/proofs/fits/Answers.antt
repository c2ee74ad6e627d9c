-- What is left of the numbers has what is left of the shape where the whole has.
-- Assumes nothing.
use mathlib.Core.Path.{sym, ◌∙◌}
use Rattle.words.proofs.Fit.{numbers-end, whole}
use native.Mathlib.Omega.{arith}
use Rattle.words.proofs.fits.Goals as goal

pub returns : goal.returns
returns c =
    let v = c.loop-x in
    let a = c.args in
    rw c.is_end.ensures
    (sym (numbers-end a.shape.now a.args.now v.w v.x-index (omega arith)) ∙ (v.invariant ∙ whole a.shape.now a.args.now a.from))
