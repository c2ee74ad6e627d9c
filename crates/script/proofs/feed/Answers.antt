-- The bytes left, fed to what is read so far, give what the whole gives.
-- Assumes nothing.
use mathlib.Core.Path.{sym, ◌∙◌}
use Rattle.script.proofs.Steps.{fed-end, fed-next}
use native.Mathlib.Omega.{arith}
use Rattle.script.proofs.feed.Goals as goal

pub loop-b-preserved : goal.loop-b-preserved
loop-b-preserved c =
    let v = c.loop-b in
    let bytes = c.args.bytes.now in
    rw c.step-t.ensures (fed-next v.t bytes v.b-index (omega arith) ∙ v.invariant)

pub returns : goal.returns
returns c =
    let v = c.loop-b in
    sym (fed-end v.t c.args.bytes.now v.b-index (omega arith)) ∙ v.invariant
