-- The table and the store are together at every turn: the two tests tell it first, then each call.
use Rattle.record_table.specs.Lent.{table, SameColumns}
use Rattle.relay_store.specs.Store.{Agrees}
use Rattle.speed_records.proofs.records_core.Given as goal

abbrev pub invariant-loop-row : goal.invariant-loop-row
invariant-loop-row l = SameColumns l.initial.records l.records × Agrees (table l.records) l.store
