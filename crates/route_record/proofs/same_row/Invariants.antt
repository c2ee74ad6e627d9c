-- At each turn the answer so far and the comparison of the rests give that of the whole; lists of other lengths differ.
use mathlib.Core.Bool.{◌&&◌}
use mathlib.Core.List.{map}
use mathlib.Core.Path.{◌≡◌}
use lib.ListN.{take, drop}
use Rattle.standard.specs.Records.{same_relays}
use Rattle.standard.specs.Route.{nwk}
use Rattle.relay_store.specs.Store.{relays_of}
use Rattle.route_record.proofs.same_row.Given as goal

abbrev pub invariant-loop-i : goal.invariant-loop-i
invariant-loop-i l = (l.same && same_relays (drop l.i (map nwk (take l.count l.row))) (drop l.i (relays_of l.l))) ≡ same_relays (map nwk (take l.count l.row)) (relays_of l.l)
