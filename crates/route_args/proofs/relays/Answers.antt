-- At each turn the list holds the relays passed, blank after them; at the end it holds those that were to be read.
use Prim.Native.Nat.{◌+◌, min}
use mathlib.Core.List.{map}
use mathlib.Core.Path.{◌≡◌, refl, sym, ap, ◌∙◌}
use native.Mathlib.Omega.{arith}
use lib.ListN.{take, drop, set}
use lib.Seq.{get_or-drop}
use Rattle.numbers.specs.Read.{number_at}
use Rattle.standard.specs.Route.{nwk}
use Rattle.flat_map.specs.Rows.{pad}
use Rattle.relay_store.specs.Store.{relay_list}
use Rattle.route_args.specs.Read.{cut_nwk, relays_at}
use Rattle.route_args.proofs.Read.{read_next, read-most}
use Rattle.route_args.proofs.relays.Goals as goal

pub loop-i-init : goal.loop-i-init
unfolding relay_list
loop-i-init c = (refl, ap (λ z. z.addresses) c.no_relays-l.ensures)

pub loop-i-preserved : goal.loop-i-preserved
loop-i-preserved c =
    let args = c.args.args.now in
    let b = c.args.from + 1 in
    let v = c.loop-i in
    let here = c.nwk-a.ensures ∙ ap cut_nwk (sym (get_or-drop b args v.i 0)) in
    (v.invariant.0, (λ z. set (v.invariant.1 z) v.i (here z)) ∙ read_next cut_nwk 0 32 v.i (drop b args) (omega arith))

pub returns : goal.returns
unfolding relays_at
returns c =
    let args = c.args.args.now in
    let v = c.loop-i in
    let n = c.at-count.ensures in
    let xs = drop (c.args.from + 1) args in
    let all : v.i ≡ min (number_at args c.args.from) 32 = omega arith in
    λ z. record { count = (v.invariant.0 ∙ n) z; addresses = (v.invariant.1 ∙ ap (λ k. pad 32 (nwk 0) (map cut_nwk (take k xs))) all ∙ read-most cut_nwk (nwk 0) 32 (number_at args c.args.from) xs) z }
