-- The same memory is lent; at each turn the records of the relays left, put now, give all of them; after the last none is left.
use native.Mathlib.Omega.{arith}
use mathlib.Core.Path.{◌≡◌, refl, ap, ◌∙◌}
use lib.ListN.{length, get_or}
use Rattle.flat_map.proofs.Shift.{unmapped}
use Rattle.standard.specs.Route.{nwk}
use Rattle.record_table.specs.Table.{RecordTable}
use Rattle.record_table.specs.Lent.{table, place_in}
use Rattle.record_table.proofs.Lent.{same-on}
use Rattle.relay_store.proofs.Lent.{together}
use Rattle.route_record.proofs.Relays.{relay-next, relay-end}
use Rattle.route_record.proofs.Storing.{storing-room, storing-step, storing-end}
use borrow.Author.Rules.{rules}
use Rattle.route_record.proofs.put_relays.Goals as goal

pub loop-i-init : goal.loop-i-init
loop-i-init c = (record { keys = refl; lengths = refl }, record { together = together c.args.records.now c.args.store.now c.requires.0; rest = refl })

pub put_record-requires : goal.put_record-requires
put_record-requires c =
    let l = c.args.relays in
    let v = c.loop-i in
    let u = table v.records in
    let long : length l.addresses ≡ 32 = search (rules, unmapped) in (
      v.invariant.1.together.agrees,
      c.requires.1,
      omega arith,
      c.place_of-place.ensures ∙ ap (λ (t : RecordTable). place_in t (get_or l.addresses v.i (nwk 0)).0) c.seen.ensures,
      storing-room _ _ c.requires.2 u v.store v.i v.invariant.1 _ (relay-next l long c.requires.1 v.i (omega arith)),
    )

pub loop-i-preserved : goal.loop-i-preserved
loop-i-preserved c =
    let l = c.args.relays in
    let v = c.loop-i in
    let u = table v.records in
    let long : length l.addresses ≡ 32 = search (rules, unmapped) in
    (same-on _ _ _ v.invariant.0 c.put_record.ensures.memory, storing-step _ _ c.requires.2 u v.store v.i v.invariant.1 _ (relay-next l long c.requires.1 v.i (omega arith)) _ _ c.put_record.ensures.held)

pub returns : goal.returns
returns c =
    let l = c.args.relays in
    let v = c.loop-i in
    let u = table v.records in
    let long : length l.addresses ≡ 32 = search (rules, unmapped) in
    record {
      memory = v.invariant.0;
      held = record {
        together = v.invariant.1.together;
        records = storing-end _ _ c.requires.2 u v.store v.i v.invariant.1 (relay-end l long c.requires.1 v.i (omega arith));
      };
    }
