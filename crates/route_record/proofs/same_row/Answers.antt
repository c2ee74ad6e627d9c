-- At each turn the answer so far and the comparison of the rests give that of the whole; lists of other lengths differ.
use native.Mathlib.Omega.{arith}
use mathlib.Core.List.{map}
use mathlib.Core.Path.{◌≡◌, sym, ◌∙◌}
use lib.ListN.{length, take}
use Rattle.flat_map.proofs.Shift.{unmapped}
use Rattle.standard.specs.Route.{nwk}
use Rattle.relay_store.specs.Store.{relays_of}
use Rattle.route_record.proofs.Held.{relays-count}
use Rattle.route_record.proofs.Relays.{relay-next, row_next, row-relays, same_turn, other_length}
use borrow.Author.Rules.{rules}
use Rattle.route_record.proofs.same_row.Goals as goal

pub returns-then-count-l : goal.returns-then-count-l
returns-then-count-l c =
    let l = c.args.l in
    let row = c.args.row.now in
    let n = c.args.count in
    let long : length l.addresses ≡ 32 = search (rules, unmapped) in
    sym (other_length (map nwk (take n row)) (relays_of l) (λ e. c.if-count-l.true (sym (row-relays n row c.requires.1 c.requires.0) ∙ e ∙ relays-count l long c.requires.2)))

pub loop-i-preserved : goal.loop-i-preserved
loop-i-preserved c =
    let l = c.args.l in
    let row = c.args.row.now in
    let n = c.args.count in
    let long : length l.addresses ≡ 32 = search (rules, unmapped) in
    let v = c.loop-i in
    same_turn (row_next row n (omega arith) v.i (omega arith)) (relay-next l long c.requires.2 v.i (omega arith)) v.same ∙ v.invariant
