-- The bytes left, put on the page as it is, give what all the bytes give.
-- Assumes nothing.
use mathlib.Core.Path.{sym, ◌∙◌}
use Rattle.say.specs.Page.{page}
use Rattle.say.proofs.Pages.{puts-next, puts-end}
use native.Mathlib.Omega.{arith}
use Rattle.say.proofs.put_all.Goals as goal

pub loop-b-preserved : goal.loop-b-preserved
loop-b-preserved c =
    let v = c.loop-b in
    let a = c.args in
    rw c.put-to.ensures (puts-next (page v.out v.to) a.bytes.now v.b-index (omega arith) ∙ v.invariant)

pub returns : goal.returns
returns c =
    let v = c.loop-b in
    let a = c.args in
    sym (puts-end (page v.out v.to) a.bytes.now v.b-index (omega arith)) ∙ v.invariant
