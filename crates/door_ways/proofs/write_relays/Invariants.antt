-- At each turn the places agree with the list's in the numbers passed; at the end in all of them.
use mathlib.Core.Path.{◌≡◌}
use lib.ListN.{length, take}
use Rattle.door_ways.specs.Relays.{out}
use Rattle.door_ways.proofs.write_relays.Given as goal

abbrev pub invariant-loop-i : goal.invariant-loop-i
invariant-loop-i l = (length l.relays ≡ 32) × (take l.i l.relays ≡ take l.i (out l.list))
