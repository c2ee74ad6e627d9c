-- A table that is not well formed, a store that disagrees and a table with no room are told; else the record is put, and table and store are those
-- of the records.
use mathlib.Core.Bool.{true}
use mathlib.Core.Path.{◌≡◌, sym, ap, ◌∙◌}
use lib.Dec.{leb}
use lib.ListN.{length}
use borrow.Author.Tests.{not-true, not-false, leb-true}
use Rattle.standard.specs.Records.{record_for}
use Rattle.record_table.specs.Table.{RecordTable, well_formed}
use Rattle.record_table.specs.Lent.{place_in}
use Rattle.record_table.proofs.Rows.{well-formed-told}
use Rattle.relay_store.specs.Store.{agrees, relays_of}
use Rattle.relay_store.specs.Packed.{Together}
use Rattle.relay_store.proofs.Agree.{agrees-told}
use Rattle.routing.specs.State.{record_table}
use Rattle.route_loads.specs.Loads.{loaded, records_after, record_put, record_put_store}
use Rattle.route_loads.proofs.Room.{record-room, held-records, held-store}
use borrow.Author.Rules.{rules}
use Rattle.route_loads.proofs.load_record.Goals as goal
use Rattle.route_loads.proofs.load_record.Goals.{Start, Else-not-well_formed, Else-not-agrees, After-has_room}

long : (c : Start) → (length c.args.s.record_keys ≡ 64) × (length c.args.s.record_lengths ≡ 64)
long c = (search rules, search rules)

good : (c : Else-not-well_formed) → well_formed (record_table c.args.s) ≡ true
good c = sym c.well_formed-2.ensures ∙ not-false _ c.if-not-well_formed.false-raw

fits : (c : Else-not-agrees) → agrees (record_table c.args.s) c.args.store.now ≡ true
fits c = sym c.agrees.ensures ∙ not-false _ c.if-not-agrees.false-raw

together : (c : Else-not-agrees) → Together (record_table c.args.s) c.args.store.now
together c = record { formed = (well-formed-told (record_table c.args.s)).fact (sym c.well_formed-2.ensures ∙ not-false _ c.if-not-well_formed.false-raw); agrees = (agrees-told _ _).fact (sym c.agrees.ensures ∙ not-false _ c.if-not-agrees.false-raw) }

room : (c : After-has_room) → leb (length (records_after c.args.destination c.args.l c.args.s c.args.store.now)) 64 ≡ c.has_room.result
room c =
    let a = c.args in
    record-room (record_table a.s) a.store.now (record { formed = (well-formed-told (record_table c.args.s)).fact (sym c.well_formed-2.ensures ∙ not-false _ c.if-not-well_formed.false-raw); agrees = (agrees-told _ _).fact (sym c.agrees.ensures ∙ not-false _ c.if-not-agrees.false-raw) }) (record_for a.destination (relays_of a.l)) c.place_of-place.result (c.place_of-place.ensures ∙ ap (λ (t : RecordTable). place_in t c.args.destination.0) c.seen.ensures)
    ∙ sym c.has_room.ensures

pub slice_bounds-well_formed-end : goal.slice_bounds-well_formed-end
slice_bounds-well_formed-end c = sym (long (goal.at.slice_bounds-well_formed-end c).Start).0

pub slice_bounds-well_formed-end-2 : goal.slice_bounds-well_formed-end-2
slice_bounds-well_formed-end-2 c = sym (long (goal.at.slice_bounds-well_formed-end-2 c).Start).1

pub returns-then-not-well_formed : goal.returns-then-not-well_formed
unfolding record_put record_put_store
returns-then-not-well_formed c =
    let bad = sym c.well_formed-2.ensures ∙ not-true _ c.if-not-well_formed.true-raw in
    record { value = rw bad c.no_call.ensures; store_after = rw bad }

pub slice_bounds-agrees-end : goal.slice_bounds-agrees-end
slice_bounds-agrees-end c = sym (long (goal.at.slice_bounds-agrees-end c).Start).1

pub returns-then-not-agrees : goal.returns-then-not-agrees
unfolding record_put record_put_store
returns-then-not-agrees c =
    let p = good (goal.at.returns-then-not-agrees c).Else-not-well_formed in
    let bad = sym c.agrees.ensures ∙ not-true _ c.if-not-agrees.true-raw in
    record { value = rw (p, bad) c.no_call-then-not-agrees.ensures; store_after = rw (p, bad) }

pub returns-then-not-has_room : goal.returns-then-not-has_room
unfolding record_put record_put_store
returns-then-not-has_room c =
    let p = good (goal.at.returns-then-not-has_room c).Else-not-well_formed in
    let q = fits (goal.at.returns-then-not-has_room c).Else-not-agrees in
    let full = room (goal.at.returns-then-not-has_room c).After-has_room ∙ not-true _ c.if-not-has_room.true-raw in
    record { value = rw (p, q, full) c.no_call-then-not-has_room.ensures; store_after = rw (p, q, full) }

pub invariant_of-records : goal.invariant_of-records
invariant_of-records c = record { formed = good (goal.at.invariant_of-records c).Else-not-well_formed }

pub put_record-requires : goal.put_record-requires
put_record-requires c = ((together (goal.at.put_record-requires c).Else-not-agrees).agrees, c.requires, search rules, c.place_of-place.ensures ∙ ap (λ (t : RecordTable). place_in t c.args.destination.0) c.seen.ensures, leb-true _ 64 (room (goal.at.put_record-requires c).After-has_room ∙ not-false _ c.if-not-has_room.false-raw))

pub returns : goal.returns
unfolding record_put record_put_store
returns c =
    let p = good (goal.at.returns c).Else-not-well_formed in
    let q = fits (goal.at.returns c).Else-not-agrees in
    let free = room (goal.at.returns c).After-has_room ∙ not-false _ c.if-not-has_room.false-raw in record { value = rw (p, q, free) (c.load.ensures ∙ ap (λ x. loaded x) (held-records _ _ _ c.put_record.ensures.held c.args.s)); store_after = rw (p, q, free) (held-store _ _ _ c.put_record.ensures.held) }
