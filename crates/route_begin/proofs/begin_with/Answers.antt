-- Room in the routes and then in the discoveries, as expiry would leave them, decides refusal or answer;
-- with both, the route is marked and the discovery stored in the tables that the expiry leaves.
use borrow.Author.Tests.{not-true, not-false}
use Rattle.types.specs.declared.Refusal.TheVariants.{RouteTableFull, DiscoveryTableFull}
use Rattle.standard.specs.Discovery.{pair_key}
use Rattle.route_table.proofs.Lent as routes-lent
use Rattle.discovery_table.proofs.Lent as discoveries-lent
use Rattle.search_tables.specs.Packed.{tables_of}
use Rattle.search_tables.specs.Lent.{lent}
use Rattle.search_tables.proofs.Lent.{formed, unmoved, routes-on, discoveries-on}
use Rattle.expiry.proofs.Asked.{asked-route, asked-discovery}
use Rattle.route_begin.proofs.Rules.{leaves-refused, full-routes, full-both, route-place, discovery-place, leaves-both}
use Rattle.route_begin.proofs.begin_with.Goals as goal

pub returns-then-not-route_room : goal.returns-then-not-route_room
returns-then-not-route_room c =
    let a = c.args in
    let r = a.routes.now in
    let d = a.discoveries.now in
    let t = lent r d in
    record {
      memory = unmoved r d;
      left = leaves-refused t (formed r d) RouteTableFull _ (full-routes a.now_ms t (formed r d) a.destination a.id _ (asked-route a.now_ms a.destination.0 c.seen.result c.seen-2.result t c.seen.ensures c.seen-2.ensures _ _ c.route_room.ensures (not-true _ c.if-not-route_room.true-raw)));
    }

pub returns-then-not-discovery_room : goal.returns-then-not-discovery_room
returns-then-not-discovery_room c =
    let a = c.args in
    let r = a.routes.now in
    let d = a.discoveries.now in
    let t = lent r d in
    record {
      memory = unmoved r d;
      left =
          leaves-refused t (formed r d) DiscoveryTableFull _
          (full-both a.now_ms t (formed r d) a.own a.id a.d c.requires (asked-discovery a.now_ms (pair_key a.own a.id) c.seen-3.result t.discoveries c.seen-3.ensures _ _ c.discovery_room.ensures (not-true _ c.if-not-discovery_room.true-raw)) a.destination (asked-route a.now_ms a.destination.0 c.seen.result c.seen-2.result t c.seen.ensures c.seen-2.ensures _ _ c.route_room.ensures (not-false _ c.if-not-route_room.false-raw)));
    }

pub mark-requires : goal.mark-requires
mark-requires c =
    let a = c.args in
    let r = a.routes.now in
    let d = a.discoveries.now in
    let t = lent r d in
    route-place a.now_ms (tables_of t) (lent c.expire.new.routes c.expire.new.discoveries) c.expire.ensures.left a.destination.0 (asked-route a.now_ms a.destination.0 c.seen.result c.seen-2.result t c.seen.ensures c.seen-2.ensures _ _ c.route_room.ensures (not-false _ c.if-not-route_room.false-raw))

pub note-requires : goal.note-requires
note-requires c =
    let a = c.args in
    let r = a.routes.now in
    let d = a.discoveries.now in
    let t = lent r d in
    (c.requires, discovery-place a.now_ms (tables_of t) (lent c.expire.new.routes c.expire.new.discoveries) c.expire.ensures.left (pair_key a.own a.id) (asked-discovery a.now_ms (pair_key a.own a.id) c.seen-3.result t.discoveries c.seen-3.ensures _ _ c.discovery_room.ensures (not-false _ c.if-not-discovery_room.false-raw)))

pub returns : goal.returns
returns c =
    let a = c.args in
    let r = a.routes.now in
    let d = a.discoveries.now in
    let t = lent r d in
    record {
      memory = record {
        routes = routes-on _ _ _ c.expire.ensures.memory.routes c.mark.ensures.same;
        discoveries = discoveries-on _ _ _ c.expire.ensures.memory.discoveries c.note.ensures.same;
      };
      left =
          leaves-both a.now_ms (tables_of t) (lent c.expire.new.routes c.expire.new.discoveries) c.expire.ensures.left a.id a.d a.destination (lent c.mark.new.routes c.note.new.discoveries)
          (routes-lent.holds c.mark.new.routes _ c.mark.ensures.routes) (discoveries-lent.holds c.note.new.discoveries _ c.note.ensures.discoveries);
    }
