-- At each turn the command holds the statuses passed, blank after them; at the end it holds all that have a place.
use mathlib.Core.Path.{◌≡◌}
use lib.ListN.{take, length}
use Rattle.door_link_status.specs.LinkStatus.{statuses, command_with}
use Rattle.door_link_status.proofs.command_given.Given as goal

abbrev pub invariant-loop-i : goal.invariant-loop-i
invariant-loop-i l = l.command ≡ command_with l.first l.last (length l.addresses) (take l.i (statuses l.addresses l.incoming l.outgoing))
