-- Before each turn the failures of the places passed are forgotten, in every table that has the column; the others stand as they were.
use native.Mathlib.Omega.{arith}
use Rattle.neighbor_changes_lent.proofs.Forgiven.{forgiving-begins, forgiving-turns, forgiving-ends}
use Rattle.neighbor_changes_lent.proofs.reset_transmit_failures.Goals as goal

pub loop-i-init : goal.loop-i-init
loop-i-init c = forgiving-begins c.args.counts.now c.args.count

pub loop-i-preserved : goal.loop-i-preserved
loop-i-preserved c = forgiving-turns c.args.counts.now c.args.count c.loop-i.counts c.loop-i.i c.loop-i-test.true c.loop-i.invariant

pub returns : goal.returns
returns c = forgiving-ends c.args.counts.now c.args.count c.loop-i.counts c.loop-i.i (omega arith) c.loop-i.invariant
