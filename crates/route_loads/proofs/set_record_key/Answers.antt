-- A place past the last and a number that the column does not hold are told; else the key is set.
-- Assumes nothing.
use native.Mathlib.Omega.{arith}
use Rattle.route_loads.specs.Loads.{set_record_key}
use Rattle.route_loads.proofs.Within.{within}
use Rattle.route_loads.proofs.set_record_key.Goals as goal

pub returns-then-i-k : goal.returns-then-i-k
unfolding set_record_key
returns-then-i-k c = rw (← c.at-i.ensures, ← c.at-k.ensures, c.if-i-k.true) c.no_call.ensures

pub overflow_cast-keys : goal.overflow_cast-keys
overflow_cast-keys c = omega (arith, within 64 c.at-i.result 65535 c.at-k.result c.if-i-k.false)

pub offset_bounds-keys-i : goal.offset_bounds-keys-i
offset_bounds-keys-i c = omega (arith, within 64 c.at-i.result 65535 c.at-k.result c.if-i-k.false)

pub bounds-keys-i : goal.bounds-keys-i
bounds-keys-i c = (within 64 c.at-i.result 65535 c.at-k.result c.if-i-k.false).0

pub returns : goal.returns
unfolding set_record_key
returns c = rw (← c.at-i.ensures, ← c.at-k.ensures, c.if-i-k.false) c.load.ensures
