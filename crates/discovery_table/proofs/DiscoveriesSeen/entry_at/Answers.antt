-- Every column has 32 places.
-- Assumes nothing.
use native.Mathlib.Omega.{arith}
use Rattle.discovery_table.proofs.Lent.{seen-formed}
use Rattle.discovery_table.proofs.DiscoveriesSeen.entry_at.Goals as goal

pub bounds-self-i : goal.bounds-self-i
bounds-self-i c = omega (arith, c.requires, (seen-formed c.args.self.now).ordered.long.0)

pub bounds-self-i-2 : goal.bounds-self-i-2
bounds-self-i-2 c = omega (arith, c.requires, (seen-formed c.args.self.now).ordered.long.1.0)

pub bounds-self-i-3 : goal.bounds-self-i-3
bounds-self-i-3 c = omega (arith, c.requires, (seen-formed c.args.self.now).ordered.long.1.1.0)
