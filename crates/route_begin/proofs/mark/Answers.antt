-- The place is that of the destination, and so is the place of the route that is put there, which has another status only.
-- Assumes nothing.
use Prim.Native.Nat.{ℕ, ◌≤◌}
use mathlib.Core.Path.{◌≡◌, sym, ap, ◌∙◌, subst}
use Rattle.standard.specs.declared.RouteEntry.{RouteEntry}
use Rattle.standard.specs.declared.Status.TheVariants.{DiscoveryUnderway}
use Rattle.standard.specs.Ordered.{put, count_with}
use Rattle.standard.specs.Route.{route_key, route_or, with_status}
use Rattle.route_table.specs.Lent.{table, routes_of, place_in}
use Rattle.route_table.specs.Table.{RouteTable, rows_of}
use Rattle.route_begin.proofs.Rules.{marked-key}
use Rattle.route_begin.proofs.mark.Goals as goal
use Rattle.route_begin.proofs.mark.Goals.{After-with_status}

marked-is : (c : After-with_status) → let a = c.args in c.with_status.result ≡ with_status DiscoveryUnderway (route_or a.destination (routes_of a.routes.now))
marked-is c =
    let a = c.args in
    c.with_status.ensures ∙ ap (with_status DiscoveryUnderway) (c.route_or-e.ensures ∙ ap (λ (t : RouteTable). route_or a.destination (rows_of t)) c.seen-2.ensures)

pub route_or-e-requires : goal.route_or-e-requires
route_or-e-requires c = c.place_of-place.ensures ∙ ap (λ (t : RouteTable). place_in t c.args.destination.0) (c.seen.ensures ∙ sym c.seen-2.ensures)

pub put_at-requires : goal.put_at-requires
put_at-requires c =
    let a = c.args in
    let xs = routes_of a.routes.now in
    let key = ap route_key (marked-is (goal.at.put_at-requires c).After-with_status) ∙ marked-key a.destination xs in (
      c.place_of-place.ensures ∙ ap (λ (t : RouteTable). place_in t a.destination.0) c.seen.ensures ∙ sym (ap (place_in (table a.routes.now)) key),
      subst (λ (k : ℕ). count_with route_key k xs ≤ 64) (sym key) c.requires,
    )

pub returns : goal.returns
returns c =
    let a = c.args in
    let xs = routes_of a.routes.now in
    record { same = c.put_at.ensures.same; routes = c.put_at.ensures.routes ∙ ap (λ (e : RouteEntry). put route_key e xs) (marked-is (goal.at.returns c).After-with_status) }
