-- The numbers left, put on the page as it is, give what all of them give.
-- Assumes nothing.
use mathlib.Core.Path.{sym, ◌∙◌}
use Rattle.say.specs.Page.{page}
use Rattle.say.proofs.Pages.{numbers-end, numbers-next}
use native.Mathlib.Omega.{arith}
use Rattle.say.proofs.put_numbers.Goals as goal

pub loop-i-preserved : goal.loop-i-preserved
loop-i-preserved c =
    let v = c.loop-i in
    let a = c.args in
    rw c.put_number-to.ensures (numbers-next (page v.out v.to) a.xs.now v.i a.end (omega arith) (omega arith) ∙ v.invariant)

pub returns : goal.returns
returns c =
    let v = c.loop-i in
    let a = c.args in
    sym (numbers-end (page v.out v.to) a.xs.now v.i a.end (omega arith)) ∙ v.invariant
