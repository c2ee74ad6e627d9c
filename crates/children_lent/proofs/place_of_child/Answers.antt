-- No place passed is the child's, so the first that is is the first of all.
use native.Mathlib.Omega.{arith}
use mathlib.Core.Path.{sym, ◌∙◌}
use Rattle.children_lent.proofs.Places.{passed-more, child-stands, child-nowhere}
use Rattle.children_lent.proofs.place_of_child.Goals as goal

pub returns-then-child_here : goal.returns-then-child_here
returns-then-child_here c = child-stands c.args.nwks.now c.args.links.now c.args.count c.args.nwk c.loop-i.i c.loop-i-test.true c.loop-i.invariant (sym c.child_here.ensures ∙ c.if-child_here.true)

pub loop-i-preserved : goal.loop-i-preserved
loop-i-preserved c = passed-more c.args.nwks.now c.args.links.now c.args.count c.args.nwk c.loop-i.i c.loop-i.invariant (sym c.child_here.ensures ∙ c.if-child_here.false)

pub returns : goal.returns
returns c = child-nowhere c.args.nwks.now c.args.links.now c.args.count c.args.nwk c.loop-i.i (omega arith) c.loop-i.invariant
