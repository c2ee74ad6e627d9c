-- At each turn the count is that of the addresses with the relays passed; where the relays and the source are few enough, all of them fit.
use Prim.Native.Nat.{ℕ}
use native.Mathlib.Omega.{arith}
use mathlib.Core.List.{List}
use mathlib.Core.Path.{◌≡◌, sym, ap, ◌∙◌}
use borrow.Author.Tests.{le-leb}
use lib.Dec.{leb}
use lib.ListN.{length, take, get_or}
use lib.Seq.{take_all}
use Rattle.types.specs.declared.Nwk.{Nwk}
use Rattle.flat_map.proofs.Shift.{unmapped}
use Rattle.standard.specs.Route.{nwk}
use Rattle.record_table.specs.Lent.{seen_table}
use Rattle.record_table.proofs.Lent.{seen-formed}
use Rattle.relay_store.specs.Store.{relays_of}
use Rattle.route_record.specs.Answer.{with_address, with_relays}
use Rattle.route_record.proofs.Held.{relays-count}
use Rattle.route_record.proofs.Relays.{relays-more}
use Rattle.route_record.proofs.Room.{addresses_of, source-last, counted_none, counted-more, all_fit, bit-few}
use borrow.Author.Rules.{rules}
use Rattle.route_record.proofs.has_room.Goals as goal

pub overflow_add-records : goal.overflow_add-records
overflow_add-records c = omega (arith, (seen-formed c.args.records.now).ordered.small, c.requires)

pub returns-then-records-n-lt64 : goal.returns-then-records-n-lt64
returns-then-records-n-lt64 c =
    let a = c.args in
    let l = a.relays in
    let t = seen_table a.records.now in
    let w = seen-formed a.records.now in
    let long : length l.addresses ≡ 32 = search (rules, unmapped) in
    sym (le-leb _ 64 (all_fit t w a.source (relays_of l) (omega (arith, relays-count l long c.requires, c.if-records-n-lt64.true))))

pub loop-i-init : goal.loop-i-init
loop-i-init c = (omega (arith, (seen-formed c.args.records.now).ordered.small), counted_none _ (seen-formed c.args.records.now))

pub loop-i-preserved : goal.loop-i-preserved
loop-i-preserved c =
    let a = c.args in
    let l = a.relays in
    let t = seen_table a.records.now in
    let w = seen-formed a.records.now in
    let long : length l.addresses ≡ 32 = search (rules, unmapped) in
    let v = c.loop-i in
    let b = get_or l.addresses v.i (nwk 0) in (
      omega (arith, bit-few c.is_new-new.result),
      counted-more t w (take v.i (relays_of l)) b _ _ c.is_new-new.ensures v.invariant.1
          ∙ ap length (source-last b (take v.i (relays_of l)) (addresses_of t))
          ∙ ap (λ (rs : List Nwk). length (with_relays rs (addresses_of t))) (sym (relays-more l long c.requires v.i (omega arith))),
    )

pub returns : goal.returns
returns c =
    let a = c.args in
    let l = a.relays in
    let t = seen_table a.records.now in
    let w = seen-formed a.records.now in
    let long : length l.addresses ≡ 32 = search (rules, unmapped) in
    let v = c.loop-i in
    let all = take_all l.count (relays_of l) (omega (arith, relays-count l long c.requires)) in
    let n : v.i ≡ l.count = omega arith in
    ap (λ (m : ℕ). leb m 64)
    (counted-more t w (take l.count (relays_of l)) a.source _ _ c.is_new-last.ensures (rw n at v.invariant.1)
    ∙ ap (λ (rs : List Nwk). length (with_address a.source (with_relays rs (addresses_of t)))) all)
