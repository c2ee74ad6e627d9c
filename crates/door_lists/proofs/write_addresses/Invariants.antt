-- At each turn the places passed are written; at the end all of them are.
use Rattle.door_lists.specs.Lists.{address_number}
use Rattle.door_lists.proofs.Written.{Written}
use Rattle.door_lists.proofs.write_addresses.Given as goal

abbrev pub invariant-loop-i : goal.invariant-loop-i
invariant-loop-i l = Written address_number l.list.addresses l.i l.addresses
