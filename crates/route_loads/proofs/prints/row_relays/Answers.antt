-- At each turn the list holds the numbers passed as addresses, blank after them; it ends at the count or at the store's end.
use Prim.Native.Nat.{◌*◌, ◌≤◌, min}
use mathlib.Core.List.{map}
use mathlib.Core.Path.{◌≡◌, refl, sym, ap, ◌∙◌}
use native.Mathlib.Omega.{arith}
use lib.ListN.{length, take, drop, set, length-drop}
use lib.Seq.{get_or-drop, take_all}
use Rattle.standard.specs.Route.{nwk}
use Rattle.flat_map.specs.Rows.{pad}
use Rattle.relay_store.specs.Store.{relay_list}
use Rattle.route_args.proofs.Read.{read_next}
use Rattle.route_loads.specs.Prints.{relays_held}
use Rattle.route_loads.proofs.prints.row_relays.Goals as goal

pub loop-j-init : goal.loop-j-init
unfolding relay_list
loop-j-init c = (refl, ap (λ z. z.addresses) c.no_relays-l.ensures)

pub returns-then-store-from : goal.returns-then-store-from
unfolding relays_held
returns-then-store-from c =
    let v = c.loop-j in
    let n = c.min-n.ensures in
    let xs = drop (32 * c.args.i) c.args.store.now in
    let short : length xs ≤ v.j = omega (arith, length-drop (32 * c.args.i) c.args.store.now, c.if-store-from.true) in
    λ z. record {
      count = (v.invariant.0 ∙ n) z;
      addresses = (v.invariant.1 ∙ ap (λ k. pad 32 (nwk 0) (map nwk k)) (take_all v.j xs short ∙ sym (take_all (min c.args.count 32) xs (omega (arith, n))))) z;
    }

pub loop-j-preserved : goal.loop-j-preserved
loop-j-preserved c =
    let v = c.loop-j in
    let n = c.min-n.ensures in
    let store = c.args.store.now in
    let here = ap nwk (sym (get_or-drop (32 * c.args.i) store v.j 0)) in
    (v.invariant.0, (λ z. set (v.invariant.1 z) v.j (here z)) ∙ read_next nwk 0 32 v.j (drop (32 * c.args.i) store) (omega (arith, n)))

pub returns : goal.returns
unfolding relays_held
returns c =
    let v = c.loop-j in
    let n = c.min-n.ensures in
    let xs = drop (32 * c.args.i) c.args.store.now in
    let all : v.j ≡ c.min-n.result = omega arith in
    λ z. record { count = (v.invariant.0 ∙ n) z; addresses = (v.invariant.1 ∙ ap (λ k. pad 32 (nwk 0) (map nwk (take k xs))) (all ∙ n)) z }
