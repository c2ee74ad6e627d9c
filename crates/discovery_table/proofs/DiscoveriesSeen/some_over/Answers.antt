-- The answer so far, or the answer over the rows left, is the answer over all rows.
use native.Mathlib.Omega.{arith}
use Rattle.discovery_table.specs.Lent.{seen_table}
use Rattle.discovery_table.proofs.Asked.{asked-more, asked-all, over-is}
use Rattle.discovery_table.proofs.Lent.{seen-formed}
use Rattle.discovery_table.proofs.DiscoveriesSeen.some_over.Goals as goal

pub offset_bounds-self-i : goal.offset_bounds-self-i
offset_bounds-self-i c = let o = (seen-formed c.args.self.now).ordered in omega (arith, c.loop-i-test.true, o.small, o.long.1.1.0)

pub bounds-self-i : goal.bounds-self-i
bounds-self-i c = let o = (seen-formed c.args.self.now).ordered in omega (arith, c.loop-i-test.true, o.small, o.long.1.1.0)

pub loop-i-preserved : goal.loop-i-preserved
loop-i-preserved c =
    let d = c.args.self.now in
    let v = c.loop-i in
    asked-more (seen_table d) (seen-formed d) _ v.over v.i v.invariant c.loop-i-test.true _ (over-is _ _ _ _)

pub returns : goal.returns
returns c =
    let d = c.args.self.now in
    let v = c.loop-i in
    asked-all (seen_table d) (seen-formed d) _ v.over v.i v.invariant c.loop-i-test.false
