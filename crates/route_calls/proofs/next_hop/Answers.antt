-- By what the look-up finds, as the definition goes.
-- Assumes nothing.
use Rattle.std.specs.Prelude.{Option}
use mathlib.Core.Path.{sym, ap, ◌∙◌}
use Rattle.standard.specs.declared.RouteEntry.{RouteEntry}
use Rattle.standard.specs.Calls.{active_hop, hop_at}
use Rattle.standard.specs.Ordered.{lookup}
use Rattle.standard.specs.Route.{route_key}
use Rattle.route_table.specs.Lent.{seen_routes}
use Rattle.route_table.proofs.Rows.{looked-found, looked-missing}
use Rattle.route_calls.specs.Answer.{hop_answer}
use Rattle.route_calls.proofs.next_hop.Goals as goal

pub returns-in_default : goal.returns-in_default
unfolding hop_at
returns-in_default c =
    let a = c.args in
    sym (ap (λ (o : Option RouteEntry). hop_answer (active_hop o)) (looked-missing (lookup route_key a.destination.0 (seen_routes a.routes.now)) (sym c.in_default.is ∙ c.find.ensures)))

pub returns : goal.returns
unfolding hop_at
returns c =
    let a = c.args in
    c.hop_of.ensures ∙ sym (ap (λ (o : Option RouteEntry). hop_answer (active_hop o)) (looked-found (lookup route_key a.destination.0 (seen_routes a.routes.now)) _ (sym c.in-Some.is ∙ c.find.ensures)))
