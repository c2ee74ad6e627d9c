-- What is found so far, or is among the rest, is what is among all.
use native.Mathlib.Omega.{arith}
use mathlib.Core.Path.{sym, ◌∙◌}
use lib.ListN.{take}
use Rattle.link_status.proofs.Live.{among-step, among-done}
use Rattle.link_status_lent.proofs.is_among.Goals as goal

pub loop-number-preserved : goal.loop-number-preserved
loop-number-preserved c =
    let v = c.loop-number in
    among-step c.args.x (take c.args.n c.args.numbers.now) v.number-index v.found (omega arith) ∙ v.invariant

pub returns : goal.returns
returns c =
    let v = c.loop-number in
    sym (among-done c.args.x (take c.args.n c.args.numbers.now) v.number-index v.found (omega arith)) ∙ v.invariant
