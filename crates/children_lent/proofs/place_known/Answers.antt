-- The extended address decides where it is known, and the network address where it is not.
use native.Mathlib.Omega.{arith}
use Rattle.children_lent.proofs.Places.{known-named, known-addressed}
use Rattle.children_lent.proofs.place_known.Goals as goal

pub place_named-named-requires : goal.place_named-named-requires
place_named-named-requires c = (omega (arith, c.requires.small, c.requires.long.0), c.requires.rising)

pub returns-then-named-count : goal.returns-then-named-count
returns-then-named-count c = known-named c.args.keys.now c.args.nwks.now c.args.count c.args.eui64 c.args.nwk _ c.place_named-named.ensures c.if-named-count.true

pub place_addressed-requires : goal.place_addressed-requires
place_addressed-requires c = (omega (arith, c.requires.small, c.requires.long.1.0), c.requires.small)

pub returns : goal.returns
returns c = known-addressed c.args.keys.now c.args.nwks.now c.args.count c.args.eui64 c.args.nwk _ c.place_named-named.ensures c.if-named-count.false _ c.place_addressed.ensures
