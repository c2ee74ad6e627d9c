-- The row goes to the place of the key and the entry to the same place, so both hold the records with this one put.
-- Assumes nothing.
use native.Mathlib.Omega.{arith}
use mathlib.Core.Path.{◌≡◌}
use lib.ListN.{length, drop}
use Rattle.flat_map.proofs.Shift.{unmapped}
use Rattle.standard.specs.Records.{RouteRecord, record_for}
use Rattle.record_table.specs.Table.{RecordTable}
use Rattle.record_table.specs.Lent.{table}
use Rattle.record_table.proofs.Lent.{holds}
use Rattle.relay_store.specs.Packed.{Together}
use Rattle.relay_store.specs.Store.{relays_of}
use Rattle.relay_store.proofs.Lent.{together}
use Rattle.route_record.proofs.Held.{entry-is, fewer, put-place, put_count, put_holds}
use borrow.Author.Rules.{rules}
use Rattle.route_record.proofs.put_record.Goals as goal
use Rattle.route_record.proofs.put_record.Goals.{Start}

long : (c : Start) → length c.args.relays.addresses ≡ 32
long c = search (rules, unmapped)

abbrev made : Start → RouteRecord
made c = record_for c.args.destination (drop c.args.from (relays_of c.args.relays))

abbrev held : Start → RecordTable
held c = table c.args.records.now

good : (c : Start) → Together (held c) c.args.store.now
good c = together c.args.records.now c.args.store.now c.requires.0

pub put_row-requires : goal.put_row-requires
put_row-requires c =
    let a = c.args in
    (c.requires.1, c.requires.2, put-place (held (goal.at.put_row-requires c).Start) a.store.now (good (goal.at.put_row-requires c).Start) (made (goal.at.put_row-requires c).Start) c.requires.4 a.place c.requires.3, c.requires.0.places)

pub put_at-requires : goal.put_at-requires
put_at-requires c =
    let a = c.args in
    (c.requires.3, put_count (held (goal.at.put_at-requires c).Start) a.store.now (good (goal.at.put_at-requires c).Start) (made (goal.at.put_at-requires c).Start) c.requires.4, omega (arith, c.requires.1))

pub returns : goal.returns
returns c =
    let a = c.args in
    record { memory = c.put_at.ensures.same; held = put_holds (held (goal.at.returns c).Start) a.store.now (good (goal.at.returns c).Start) (made (goal.at.returns c).Start) c.requires.4 (fewer a.from a.relays (long (goal.at.returns c).Start) c.requires.1) a.place c.requires.3 _ (entry-is a.destination a.relays a.from (long (goal.at.returns c).Start) c.requires.1) _ _ (holds c.put_at.new.self _ c.put_at.ensures.entries) c.put_row.ensures }
