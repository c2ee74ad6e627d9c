-- At each turn the places passed are written; at the end all of them are.
use Rattle.door_lists.specs.Lists.{child_name, child_address}
use Rattle.door_lists.proofs.Written.{Written}
use Rattle.door_lists.proofs.write_children.Given as goal

abbrev pub invariant-loop-i : goal.invariant-loop-i
invariant-loop-i l =
    Written child_name l.list.children l.i l.eui64s
    × Written child_address l.list.children l.i l.addresses
