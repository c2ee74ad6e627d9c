-- The route stored is the one that the definition puts: found or made, and underway unless it is Active.
-- Assumes nothing.
use mathlib.Core.List.{[]}
use mathlib.Core.Path.{◌≡◌, sym, ap, subst, ◌∙◌}
use Rattle.standard.specs.declared.RouteEntry.{RouteEntry}
use Rattle.standard.specs.Calls.{sought, note_relayed}
use Rattle.standard.specs.Ordered.{put}
use Rattle.standard.specs.Route.{route_key, route_or}
use Rattle.route_table.specs.Table.{RouteTable, rows_of}
use Rattle.route_table.specs.Lent.{table, routes_of, place_in}
use Rattle.route_calls.specs.Answer.{step_to, Leaves}
use Rattle.search_tables.proofs.Packing.{route-or-key}
use Rattle.route_calls.proofs.Rules.{sought-key}
use Rattle.route_calls.proofs.note_relayed_discovery.Goals as goal

pub route_or-e-requires : goal.route_or-e-requires
route_or-e-requires c =
    let k = c.args.destination.0 in
    c.place_of-place.ensures ∙ ap (λ (t : RouteTable). place_in t k) (c.seen.ensures ∙ sym c.seen-2.ensures)

pub store-requires : goal.store-requires
store-requires c =
    let a = c.args in
    let xs = routes_of a.routes.now in
    let e = c.sought.ensures ∙ ap sought (c.route_or-e.ensures ∙ ap (λ (t : RouteTable). route_or a.destination (rows_of t)) c.seen-2.ensures) in
    c.place_of-place.ensures ∙ ap (λ (t : RouteTable). place_in t a.destination.0) c.seen.ensures
    ∙ ap (place_in (table a.routes.now)) (sym (ap route_key e ∙ sought-key (route_or a.destination xs) ∙ route-or-key a.destination (record { routes = xs; discoveries = [] })))

pub returns : goal.returns
unfolding note_relayed
returns c =
    let a = c.args in
    let xs = routes_of a.routes.now in
    let s = c.store in
    let e = c.sought.ensures ∙ ap sought (c.route_or-e.ensures ∙ ap (λ (t : RouteTable). route_or a.destination (rows_of t)) c.seen-2.ensures) in
    subst (λ (f : RouteEntry). Leaves a.routes.now s.new.routes s.result (step_to xs (put route_key f xs))) e s.ensures
