-- The route's place is that of the originator, whose key a candidate and the flags keep; the discovery's is that of its pair.
-- With room for both, each put is the rule's.
use Prim.Native.Nat.{ℕ, ◌≤◌}
use mathlib.Core.Path.{◌≡◌, sym, ap, ◌∙◌, subst}
use Rattle.standard.specs.Discovery.{pair_key, discovery_key}
use Rattle.standard.specs.Ordered.{count_with}
use Rattle.standard.specs.Request.{flagged}
use Rattle.standard.specs.Route.{route_key, route_or, considered, considering}
use Rattle.route_table.specs.Lent as routes
use Rattle.route_table.specs.Table.{RouteTable}
use Rattle.route_table.specs.Table as route
use Rattle.route_table.proofs.Lent as routes-lent
use Rattle.discovery_table.specs.Lent as discoveries
use Rattle.discovery_table.specs.Table.{DiscoveryTable}
use Rattle.discovery_table.proofs.Lent as discoveries-lent
use Rattle.search_tables.specs.Packed.{tables_of}
use Rattle.search_tables.specs.Lent.{lent, rows_lent}
use Rattle.search_tables.proofs.Packing.{search-fits}
use Rattle.search_tables.proofs.Lent.{formed}
use Rattle.route_request.proofs.Rules.{heard, heard-key, leaves-accepted}
use Rattle.route_request.proofs.store.Goals as goal
use Rattle.route_request.proofs.store.Goals.{After-flagged-f}

found-is : (c : After-flagged-f) → let a = c.args in c.route_or-e.result ≡ route_or a.originator (rows_lent a.routes.now a.discoveries.now).routes
found-is c = c.route_or-e.ensures ∙ ap (λ (t : RouteTable). route_or c.args.originator (route.rows_of t)) c.seen-2.ensures

heard-is : (c : After-flagged-f) → let a = c.args in c.flagged-f.result ≡ heard a.originator a.sender a.cost a.many_to_one (rows_lent a.routes.now a.discoveries.now)
heard-is c =
    let a = c.args in
    c.flagged-f.ensures ∙ ap (flagged a.many_to_one) (c.considered.ensures ∙ ap (considered a.sender a.cost) (found-is c))

pub route_or-e-requires : goal.route_or-e-requires
route_or-e-requires c = c.place_of-place.ensures ∙ ap (λ (t : RouteTable). routes.place_in t c.args.originator.0) (c.seen.ensures ∙ sym c.seen-2.ensures)

pub put_at-requires : goal.put_at-requires
put_at-requires c =
    let a = c.args in
    let xs = rows_lent a.routes.now a.discoveries.now in
    let key = ap route_key (heard-is (goal.at.put_at-requires c).After-flagged-f) ∙ heard-key a.originator a.sender a.cost a.many_to_one xs in (
      c.place_of-place.ensures ∙ ap (λ (t : RouteTable). routes.place_in t a.originator.0) c.seen.ensures ∙ sym (ap (routes.place_in (routes.table a.routes.now)) key),
      subst (λ (k : ℕ). count_with route_key k xs.routes ≤ 64) (sym key) c.requires.1.route,
    )

pub put_at-requires-2 : goal.put_at-requires-2
put_at-requires-2 c =
    let a = c.args in
    let d = a.discoveries.now in (
      c.place_of-pair.ensures ∙ ap (λ (t : DiscoveryTable). discoveries.place_in t (pair_key a.originator a.id)) c.seen-3.ensures ∙ sym (ap (discoveries.place_in (discoveries.table d)) c.requires.0),
      subst (λ (k : ℕ). count_with discovery_key k (discoveries.discoveries_of d) ≤ 32) (sym c.requires.0) c.requires.1.discovery,
    )

pub returns : goal.returns
returns c =
    let a = c.args in
    let t = lent a.routes.now a.discoveries.now in
    let at = (goal.at.returns c).After-flagged-f in
    record {
      memory = record { routes = c.put_at.ensures.same; discoveries = c.put_at-2.ensures.same };
      left =
          leaves-accepted a.originator a.sender a.cost a.many_to_one a.id a.d c.requires.0 (tables_of t) (search-fits t (formed a.routes.now a.discoveries.now)) (tables_of t) c.requires.1 (lent c.put_at.new.self c.put_at-2.new.self) _ _
          (heard-is at) (c.considering.ensures ∙ ap (considering a.sender a.cost) (found-is at)) (routes-lent.holds c.put_at.new.self _ c.put_at.ensures.routes) (discoveries-lent.holds c.put_at-2.new.self _ c.put_at-2.ensures.discoveries);
    }
