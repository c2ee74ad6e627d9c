-- The route stored is the one that the definition puts, at the place of its destination.
-- Assumes nothing.
use mathlib.Core.Path.{sym, ap, subst, ◌∙◌}
use Rattle.standard.specs.declared.RouteEntry.{RouteEntry}
use Rattle.standard.specs.Calls.{restore_route}
use Rattle.standard.specs.Ordered.{put}
use Rattle.standard.specs.Route.{route_key}
use Rattle.route_table.specs.Table.{RouteTable}
use Rattle.route_table.specs.Lent.{table, routes_of, place_in}
use Rattle.route_calls.specs.Answer.{step_to, Leaves}
use Rattle.route_calls.proofs.restore_route.Goals as goal

pub store-requires : goal.store-requires
store-requires c =
    let a = c.args in
    c.place_of-place.ensures ∙ ap (λ (t : RouteTable). place_in t a.destination.0) c.seen.ensures ∙ ap (place_in (table a.routes.now)) (sym (ap route_key c.restored.ensures))

pub returns : goal.returns
unfolding restore_route
returns c =
    let r = c.args.routes.now in
    let s = c.store in
    subst (λ (e : RouteEntry). Leaves r s.new.routes s.result (step_to (routes_of r) (put route_key e (routes_of r)))) c.restored.ensures s.ensures
