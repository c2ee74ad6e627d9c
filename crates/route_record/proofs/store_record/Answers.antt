-- The count of addresses decides first, with nothing written; then the relays' records and the source's are those of the rule,
-- and the comparison falls between the two.
use Prim.Native.Nat.{ℕ}
use native.Mathlib.Omega.{arith}
use mathlib.Core.Bool.{true}
use mathlib.Core.List.{map}
use mathlib.Core.Path.{◌≡◌, refl, sym, ap, ◌∙◌}
use borrow.Author.Tests.{not-true, not-false}
use lib.Dec.{leb}
use lib.ListN.{length}
use Rattle.standard.specs.Record.{record_key}
use Rattle.standard.specs.Records.{record_for, record_stored}
use Rattle.record_table.specs.Table.{RecordTable, rows_of}
use Rattle.record_table.specs.Lent.{table, place_in}
use Rattle.record_table.proofs.Lent.{same-on}
use Rattle.relay_store.specs.Store.{relays_of}
use Rattle.relay_store.specs.Packed.{records_of, Together}
use Rattle.relay_store.proofs.Lent.{together}
use Rattle.route_record.specs.Answer.{with_address, with_relays, other_at_of}
use Rattle.route_record.proofs.Held.{put-place}
use Rattle.route_record.proofs.Looked.{other_at}
use Rattle.route_record.proofs.Storing.{room-is, refused-in, relays-room, source-room, stored-in}
use Rattle.route_record.proofs.store_record.Goals as goal
use Rattle.route_record.proofs.store_record.Goals.{Start, After-has_room, Else-not-has_room, After-place_of-place}

good : (c : Start) → Together (table c.args.records.now) c.args.store.now
good c = together c.args.records.now c.args.store.now c.requires.0

asked : (c : After-has_room) → c.has_room.result ≡ leb (length (record_stored c.args.source (relays_of c.args.relays) (records_of (table c.args.records.now) c.args.store.now))) 64
asked c =
    let a = c.args in
    c.has_room.ensures
    ∙ ap (λ (t : RecordTable). leb (length (with_address a.source (with_relays (relays_of a.relays) (map record_key (rows_of t))))) 64) c.seen.ensures
    ∙ room-is (table a.records.now) a.store.now (together a.records.now a.store.now c.requires.0) a.source (relays_of a.relays)

free : (c : Else-not-has_room) → leb (length (record_stored c.args.source (relays_of c.args.relays) (records_of (table c.args.records.now) c.args.store.now))) 64 ≡ true
free c =
    let a = c.args in
    sym (c.has_room.ensures
    ∙ ap (λ (t : RecordTable). leb (length (with_address a.source (with_relays (relays_of a.relays) (map record_key (rows_of t))))) 64) c.seen.ensures
    ∙ room-is (table a.records.now) a.store.now (together a.records.now a.store.now c.requires.0) a.source (relays_of a.relays))
    ∙ not-false _ c.if-not-has_room.false-raw

place : (c : After-place_of-place) → c.place_of-place.result ≡ place_in (table c.put_relays.new.records) c.args.source.0
place c = c.place_of-place.ensures ∙ ap (λ (t : RecordTable). place_in t c.args.source.0) c.seen-2.ensures

pub returns-then-not-has_room : goal.returns-then-not-has_room
returns-then-not-has_room c =
    let a = c.args in
    record {
      memory = record { keys = refl; lengths = refl };
      stored =
          refused-in (table a.records.now) a.store.now (good (goal.at.returns-then-not-has_room c).Start) a.source (relays_of a.relays)
          (sym (asked (goal.at.returns-then-not-has_room c).After-has_room) ∙ not-true _ c.if-not-has_room.true-raw);
    }

pub put_relays-requires : goal.put_relays-requires
put_relays-requires c =
    let a = c.args in
    (c.requires.0, c.requires.1, relays-room (table a.records.now) a.store.now (good (goal.at.put_relays-requires c).Start) a.source (relays_of a.relays) (free (goal.at.put_relays-requires c).Else-not-has_room))

pub differs-changed-requires : goal.differs-changed-requires
differs-changed-requires c =
    let a = c.args in
    let g = c.put_relays.ensures.held.together in (
      g.agrees.places,
      put-place _ _ g (record_for a.source (relays_of a.relays)) (source-room (table a.records.now) a.store.now (good (goal.at.differs-changed-requires c).Start) a.source (relays_of a.relays) (free (goal.at.differs-changed-requires c).Else-not-has_room) _ _ c.put_relays.ensures.held) _ (place (goal.at.differs-changed-requires c).After-place_of-place),
      c.requires.1,
    )

pub put_record-requires : goal.put_record-requires
put_record-requires c =
    let a = c.args in (
      c.put_relays.ensures.held.together.agrees,
      c.requires.1,
      omega arith,
      place (goal.at.put_record-requires c).After-place_of-place,
      source-room (table a.records.now) a.store.now (good (goal.at.put_record-requires c).Start) a.source (relays_of a.relays) (free (goal.at.put_record-requires c).Else-not-has_room) _ _ c.put_relays.ensures.held,
    )

pub returns : goal.returns
returns c =
    let a = c.args in
    let p = place (goal.at.returns c).After-place_of-place in
    record {
      memory = same-on _ _ _ c.put_relays.ensures.memory c.put_record.ensures.memory;
      stored =
          stored-in (table a.records.now) a.store.now (good (goal.at.returns c).Start) a.source (relays_of a.relays) (free (goal.at.returns c).Else-not-has_room) _ _ c.put_relays.ensures.held _ _ _
          (c.differs-changed.ensures
          ∙ ap (λ (t : RecordTable). other_at_of c.place_of-place.result t.lengths c.put_relays.new.store (relays_of a.relays)) c.seen-3.ensures
          ∙ other_at _ _ c.put_relays.ensures.held.together a.source _ p (relays_of a.relays)) c.put_record.ensures.held;
    }
