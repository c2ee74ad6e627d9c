-- At each turn the count is that of the addresses with the relays passed; where the relays and the source are few enough, all of them fit.
use Prim.Native.Nat.{◌+◌, ◌≤◌}
use mathlib.Core.Path.{◌≡◌}
use lib.ListN.{length, take}
use Rattle.record_table.specs.Lent.{seen_table}
use Rattle.relay_store.specs.Store.{relays_of}
use Rattle.route_record.specs.Answer.{with_relays}
use Rattle.route_record.proofs.Room.{addresses_of}
use Rattle.route_record.proofs.has_room.Given as goal

abbrev pub invariant-loop-i : goal.invariant-loop-i
invariant-loop-i l = (l.total ≤ 64 + l.i) × (l.total ≡ length (with_relays (take l.i (relays_of l.relays)) (addresses_of (seen_table l.records))))
