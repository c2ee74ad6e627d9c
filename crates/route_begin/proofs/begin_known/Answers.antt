-- Room in the routes, as expiry would leave them, decides refusal or answer; with it, the route is marked in the tables that the expiry leaves.
-- Assumes nothing.
use borrow.Author.Tests.{not-true, not-false}
use Rattle.types.specs.declared.Refusal.TheVariants.{RouteTableFull}
use Rattle.route_table.proofs.Lent as routes-lent
use Rattle.search_tables.specs.Packed.{tables_of}
use Rattle.search_tables.specs.Lent.{lent}
use Rattle.search_tables.proofs.Lent.{formed, unmoved, routes-on}
use Rattle.expiry.proofs.Asked.{asked-route}
use Rattle.route_begin.proofs.Rules.{leaves-refused, full-routes, route-place, leaves-marked}
use Rattle.route_begin.proofs.begin_known.Goals as goal

pub returns-then-not-route_room : goal.returns-then-not-route_room
returns-then-not-route_room c =
    let a = c.args in
    let r = a.routes.now in
    let d = a.discoveries.now in
    let t = lent r d in
    record {
      memory = unmoved r d;
      left = leaves-refused t (formed r d) RouteTableFull _ (full-routes a.now_ms t (formed r d) a.destination a.id _ (asked-route a.now_ms a.destination.0 c.seen.result c.seen-2.result t c.seen.ensures c.seen-2.ensures _ _ c.route_room.ensures (not-true _ c.if-not-route_room.true-raw)));
    }

pub mark-requires : goal.mark-requires
mark-requires c =
    let a = c.args in
    let r = a.routes.now in
    let d = a.discoveries.now in
    let t = lent r d in
    route-place a.now_ms (tables_of t) (lent c.expire.new.routes c.expire.new.discoveries) c.expire.ensures.left a.destination.0 (asked-route a.now_ms a.destination.0 c.seen.result c.seen-2.result t c.seen.ensures c.seen-2.ensures _ _ c.route_room.ensures (not-false _ c.if-not-route_room.false-raw))

pub returns : goal.returns
returns c =
    let a = c.args in
    let r = a.routes.now in
    let d = a.discoveries.now in
    let t = lent r d in
    record {
      memory = record { routes = routes-on _ _ _ c.expire.ensures.memory.routes c.mark.ensures.same; discoveries = c.expire.ensures.memory.discoveries };
      left = leaves-marked a.now_ms (tables_of t) (lent c.expire.new.routes c.expire.new.discoveries) c.expire.ensures.left a.id a.destination _ (routes-lent.holds c.mark.new.routes _ c.mark.ensures.routes);
    }
