-- The route found is stored over with its status changed; where it is missing nothing is written.
-- Assumes nothing.
use mathlib.Core.Path.{refl, sym, ap, ◌∙◌}
use native.Mathlib.Omega.{arith}
use Rattle.standard.specs.declared.Status.TheVariants.{DiscoveryFailed}
use Rattle.standard.specs.Route.{with_status}
use Rattle.route_table.specs.Table.{RouteTable}
use Rattle.route_table.specs.Lent.{value_table, place_in, read_at}
use Rattle.route_table.proofs.Lent.{values-formed}
use Rattle.route_table.proofs.Rows.{place-within}
use Rattle.route_calls.proofs.Rules.{status-key, left-as-is, change-place, changed}
use Rattle.route_calls.proofs.mark_discovery_failed.Goals as goal

pub returns-in_default : goal.returns-in_default
returns-in_default c =
    let a = c.args in
    let r = a.routes.now in
    record {
      keys = refl;
      words = refl;
      usage = refl;
      count = refl;
      routes = (left-as-is (value_table r) (values-formed r) a.destination.0 _ (with_status DiscoveryFailed) (sym c.in_default.is ∙ c.place_of.ensures ∙ ap (λ (t : RouteTable). place_in t a.destination.0) c.seen.ensures)).rows;
    }

pub entry_at-e-requires : goal.entry_at-e-requires
entry_at-e-requires c =
    let a = c.args in
    let r = a.routes.now in
    let p = sym c.in-Ok.is ∙ c.place_of.ensures ∙ ap (λ (t : RouteTable). place_in t a.destination.0) c.seen.ensures in
    omega (arith, place-within (value_table r) (values-formed r) a.destination.0 _ p, (values-formed r).ordered.small)

pub set_at-requires : goal.set_at-requires
set_at-requires c =
    let a = c.args in
    let r = a.routes.now in
    let p = sym c.in-Ok.is ∙ c.place_of.ensures ∙ ap (λ (t : RouteTable). place_in t a.destination.0) c.seen.ensures in
    change-place (value_table r) (values-formed r) a.destination.0 _ (with_status DiscoveryFailed) p _ _ (c.entry_at-e.ensures ∙ ap (λ (t : RouteTable). read_at t c.in-Ok.i) c.seen-2.ensures) c.with_status.ensures (status-key DiscoveryFailed)

pub returns : goal.returns
returns c =
    let a = c.args in
    let r = a.routes.now in
    let p = sym c.in-Ok.is ∙ c.place_of.ensures ∙ ap (λ (t : RouteTable). place_in t a.destination.0) c.seen.ensures in
    let s = c.set_at.ensures in
    record {
      keys = s.keys;
      words = s.words;
      usage = s.usage;
      count = s.count;
      routes = (changed (value_table r) (values-formed r) a.destination.0 _ (with_status DiscoveryFailed) p _ _ (c.entry_at-e.ensures ∙ ap (λ (t : RouteTable). read_at t c.in-Ok.i) c.seen-2.ensures) c.with_status.ensures (value_table c.set_at.new.self) (record { formed = values-formed c.set_at.new.self; rows = s.routes })).rows;
    }
