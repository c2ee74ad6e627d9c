-- A place past the last is told; else the key is set.
-- Assumes nothing.
use borrow.Author.Tests.{le-leb, lt-leb}
use Rattle.neighbor_loads.specs.Loads.{set_neighbor_key}
use Rattle.neighbor_loads.proofs.set_neighbor_key.Goals as goal

pub returns-then-i-ge64 : goal.returns-then-i-ge64
unfolding set_neighbor_key
returns-then-i-ge64 c = rw (← c.at-i.ensures, le-leb 64 c.at-i.result c.if-i-ge64.true) c.no_call.ensures

pub returns : goal.returns
unfolding set_neighbor_key
returns c = rw (← c.at-i.ensures, ← c.at-k.ensures, lt-leb 64 c.at-i.result c.if-i-ge64.false) c.load.ensures
