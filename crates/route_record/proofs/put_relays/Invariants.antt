-- The same memory is lent; at each turn the records of the relays left, put now, give all of them; after the last none is left.
use Rattle.standard.specs.Records.{relays_stored}
use Rattle.record_table.specs.Lent.{table, SameColumns}
use Rattle.relay_store.specs.Store.{relays_of}
use Rattle.relay_store.specs.Packed.{records_of}
use Rattle.route_record.proofs.Storing.{Storing}
use Rattle.route_record.proofs.put_relays.Given as goal

abbrev pub invariant-loop-i : goal.invariant-loop-i
invariant-loop-i l = SameColumns l.initial.records l.records × Storing (relays_of l.relays) (relays_stored (relays_of l.relays) (records_of (table l.initial.records) l.initial.store)) (table l.records) l.store l.i
