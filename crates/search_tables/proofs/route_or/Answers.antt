-- By the place: a route found is the look-up's, and where there is none the definition makes one.
-- Assumes nothing.
use Rattle.std.specs.Prelude.{Option, unwrap_or}
use mathlib.Core.Path.{sym, ap, ◌∙◌}
use native.Mathlib.Omega.{arith}
use Rattle.standard.specs.declared.RouteEntry.{RouteEntry}
use Rattle.standard.specs.declared.Status.TheVariants.{Inactive}
use Rattle.standard.specs.Route.{new_route, unknown_hop}
use Rattle.route_table.specs.Lent.{seen_table}
use Rattle.route_table.proofs.Lent.{seen-formed}
use Rattle.route_table.proofs.Rows as routes
use Rattle.search_tables.proofs.route_or.Goals as goal

pub entry_at-requires : goal.entry_at-requires
entry_at-requires c =
    let r = c.args.routes.now in
    omega (arith, routes.place-within (seen_table r) (seen-formed r) _ _ (sym c.in-Ok.is ∙ c.requires), (seen-formed r).ordered.small)

pub returns-in-Ok : goal.returns-in-Ok
returns-in-Ok c =
    let a = c.args in
    let r = a.routes.now in
    c.entry_at.ensures
    ∙ sym (ap (λ (o : Option RouteEntry). unwrap_or o (new_route a.destination Inactive unknown_hop)) (routes.found-row (seen_table r) (seen-formed r) _ _ (sym c.in-Ok.is ∙ c.requires)))

pub returns-in-Err : goal.returns-in-Err
returns-in-Err c =
    let a = c.args in
    let r = a.routes.now in
    c.new_route.ensures
    ∙ sym (ap (λ (o : Option RouteEntry). unwrap_or o (new_route a.destination Inactive unknown_hop)) (routes.missing-row (seen_table r) (seen-formed r) _ _ (sym c.in-Err.is ∙ c.requires)))
