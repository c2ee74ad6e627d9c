-- A place past the last and a number that the column does not hold are told; else the key is set.
-- Assumes nothing.
use borrow.Author.Tests.{le-leb, lt-leb, lt-ltb, le-ltb}
use Rattle.neighbor_loads.specs.Loads.{set_waiting_key}
use Rattle.neighbor_loads.proofs.set_waiting_key.Goals as goal

pub returns-then-i-ge64 : goal.returns-then-i-ge64
unfolding set_waiting_key
returns-then-i-ge64 c = rw (← c.at-i.ensures, le-leb 64 c.at-i.result c.if-i-ge64.true) c.no_call.ensures

pub returns-then-k-gt65535 : goal.returns-then-k-gt65535
unfolding set_waiting_key
returns-then-k-gt65535 c = rw (← c.at-i.ensures, ← c.at-k.ensures, lt-leb 64 c.at-i.result c.if-i-ge64.false, lt-ltb 65535 c.at-k.result c.if-k-gt65535.true) c.no_call-then-k-gt65535.ensures

pub returns : goal.returns
unfolding set_waiting_key
returns c = rw (← c.at-i.ensures, ← c.at-k.ensures, lt-leb 64 c.at-i.result c.if-i-ge64.false, le-ltb 65535 c.at-k.result c.if-k-gt65535.false) c.load.ensures
