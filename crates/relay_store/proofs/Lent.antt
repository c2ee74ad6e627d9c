-- A table that is lent is well formed, which its type says; with a store that agrees, they are a table and its store.
use Prim.Native.Nat.{ℕ}
use mathlib.Core.List.{List}
use Rattle.record_table.specs.declared.Records.{Records}
use Rattle.record_table.specs.declared.RecordsSeen.{RecordsSeen}
use Rattle.record_table.specs.Lent.{table, seen_table}
use Rattle.record_table.proofs.Lent.{formed, seen-formed}
use Rattle.relay_store.specs.Store.{Agrees}
use Rattle.relay_store.specs.Packed.{Together}

pub together : (r : Records) (store : List ℕ) → Agrees (table r) store → Together (table r) store
together r store a = record { formed = formed r; agrees = a }

pub seen-together : (r : RecordsSeen) (store : List ℕ) → Agrees (seen_table r) store → Together (seen_table r) store
seen-together r store a = record { formed = seen-formed r; agrees = a }
