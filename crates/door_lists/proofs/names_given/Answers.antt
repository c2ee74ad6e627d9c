-- At each turn the list holds the numbers passed as extended addresses, blank after them; at the end it holds those that have a place.
use mathlib.Core.List.{map}
use mathlib.Core.Path.{◌≡◌, sym, ap, ◌∙◌}
use native.Mathlib.Omega.{arith}
use lib.ListN.{length, take, get_or, set, length-map}
use Rattle.flat_map.specs.Rows.{pad}
use Rattle.neighbor_queries.specs.declared.Eui64List.{Eui64List}
use Rattle.neighbor_queries.specs.Lists.{no_name, eui_list}
use Rattle.relay_store.proofs.Cells.{pad-next}
use Rattle.door_lists.specs.Lists.{name, filled}
use Rattle.door_lists.proofs.Given.{filled-few, pad-filled}
use Rattle.door_lists.proofs.names_given.Goals as goal

pub loop-i-init : goal.loop-i-init
unfolding eui_list
loop-i-init c =
    let row = c.args.numbers.now in
    let e = c.places_filled-n.ensures in
    (rw e (filled-few (length row)).0, rw e (filled-few (length row)).1, ap (λ (x : Eui64List). x.addresses) c.new-l.ensures)

pub loop-i-preserved : goal.loop-i-preserved
loop-i-preserved c =
    let v = c.loop-i in
    let row = c.args.numbers.now in
    (v.invariant.0, v.invariant.1, ap (λ a. set a v.i (name (get_or row v.i 0))) v.invariant.2 ∙ pad-next name 64 v.i no_name 0 row (omega arith) (omega arith))

pub returns : goal.returns
unfolding eui_list
returns c =
    let v = c.loop-i in
    let row = c.args.numbers.now in
    let n : v.i ≡ filled (length row) = omega (arith, c.places_filled-n.ensures) in
    λ z. record { count = sym (length-map row name) z; addresses = (v.invariant.2 ∙ ap (λ k. pad 64 no_name (map name (take k row))) n ∙ pad-filled name no_name row) z }
