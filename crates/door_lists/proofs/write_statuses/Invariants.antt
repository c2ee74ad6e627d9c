-- At each turn the places passed are written; at the end all of them are.
use Rattle.door_lists.specs.Lists.{status_address, status_incoming, status_outgoing}
use Rattle.door_lists.proofs.Written.{Written}
use Rattle.door_lists.proofs.write_statuses.Given as goal

abbrev pub invariant-loop-i : goal.invariant-loop-i
invariant-loop-i l =
    Written status_address l.list.statuses l.i l.addresses
    × Written status_incoming l.list.statuses l.i l.incoming_costs
    × Written status_outgoing l.list.statuses l.i l.outgoing_costs
