-- At each turn the list holds the numbers passed as addresses, blank after them; at the end it holds those asked for.
use mathlib.Core.List.{map}
use mathlib.Core.Path.{◌≡◌, sym, ap, ◌∙◌}
use lib.ListN.{length, take, get_or, set, length-map}
use lib.Seq.{length-take-le}
use Rattle.standard.specs.Route.{nwk}
use Rattle.flat_map.specs.Rows.{pad}
use Rattle.relay_store.specs.Store.{relay_list}
use Rattle.relay_store.proofs.Cells.{pad-next}
use native.Mathlib.Omega.{arith}
use Rattle.relay_store.proofs.read_row.Goals as goal

pub loop-i-init : goal.loop-i-init
unfolding relay_list
loop-i-init c = ap (λ z. z.addresses) c.no_relays-l.ensures

pub loop-i-preserved : goal.loop-i-preserved
loop-i-preserved c =
    let v = c.loop-i in
    let row = c.args.row.now in
    ap (λ a. set a v.i (nwk (get_or row v.i 0))) v.invariant ∙ pad-next nwk 32 v.i (nwk 0) 0 row (omega arith) (omega arith)

pub returns : goal.returns
unfolding relay_list
returns c =
    let v = c.loop-i in
    let row = c.args.row.now in
    let n : v.i ≡ c.args.count = omega arith in
    let many : c.args.count ≡ length (map nwk (take c.args.count row)) = sym (length-map (take c.args.count row) nwk ∙ length-take-le c.args.count row (omega arith)) in
    λ z. record { count = many z; addresses = (v.invariant ∙ ap (λ k. pad 32 (nwk 0) (map nwk (take k row))) n) z }
