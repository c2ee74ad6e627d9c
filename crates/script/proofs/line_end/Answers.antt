-- The bytes passed hold no line feed.
-- Assumes nothing.
use mathlib.Core.Path.{sym, ◌∙◌}
use mathlib.Core.Logic.{⊎_elim}
use lib.ListN.{length}
use Rattle.flat_map.proofs.Compare.{below_or_not}
use Rattle.script.proofs.Steps.{feed-here, feed-next, feed-end}
use native.Mathlib.Omega.{arith}
use Rattle.script.proofs.line_end.Goals as goal

pub returns-then-bytes-i-eq10 : goal.returns-then-bytes-i-eq10
returns-then-bytes-i-eq10 c =
    let v = c.loop-i in
    omega (arith, feed-here c.args.bytes.now v.i (omega arith) c.if-bytes-i-eq10.true, v.invariant)

pub loop-i-preserved : goal.loop-i-preserved
loop-i-preserved c =
    let v = c.loop-i in
    sym (feed-next c.args.bytes.now v.i (omega arith) c.if-bytes-i-eq10.false) ∙ v.invariant

pub returns : goal.returns
returns c =
    let v = c.loop-i in
    let bytes = c.args.bytes.now in
    let ended = feed-end bytes v.i (omega arith) in
    ⊎_elim (λ h. omega (arith, ended, v.invariant, v.auto.i-end (omega (arith, h)))) (λ h. omega (arith, ended, v.invariant, feed-end bytes c.args.from h))
    (below_or_not c.args.from (length bytes))
