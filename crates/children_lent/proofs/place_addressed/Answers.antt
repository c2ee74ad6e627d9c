-- The first place with the address, where one is given.
use native.Mathlib.Omega.{arith}
use Rattle.children_lent.proofs.Places.{addressed, no_address}
use Rattle.children_lent.proofs.place_addressed.Goals as goal

pub first16-requires : goal.first16-requires
first16-requires c = (c.requires.0, omega (arith, c.requires.1))

pub returns-in-Some : goal.returns-in-Some
returns-in-Some c = addressed c.args.nwks.now c.args.count c.args.nwk _ _ c.in-Some.is c.first16.ensures

pub returns-in-None : goal.returns-in-None
returns-in-None c = no_address c.args.nwks.now c.args.count c.args.nwk c.in-None.is
