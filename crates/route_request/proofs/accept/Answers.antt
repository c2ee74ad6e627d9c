-- Room in the routes and then in the discoveries, as expiry would leave them, decides refusal or answer;
-- with both, the expiry leaves tables that have it, and what is stored there is the rule's.
use mathlib.Core.Path.{sym, subst}
use borrow.Author.Tests.{not-true, not-false}
use Rattle.types.specs.declared.Refusal.TheVariants.{RouteTableFull, DiscoveryTableFull}
use Rattle.standard.specs.Discovery.{pair_key}
use Rattle.search_tables.specs.Lent.{lent}
use Rattle.search_tables.proofs.Lent.{formed, unmoved, memory-on}
use Rattle.expiry.proofs.Asked.{asked-route, asked-discovery}
use Rattle.route_request.specs.Answer.{Room}
use Rattle.route_request.proofs.Rules.{leaves-refused, full-routes, full-discoveries, has_room, leaves-stored}
use Rattle.route_request.proofs.accept.Goals as goal

pub returns-then-not-route_room : goal.returns-then-not-route_room
returns-then-not-route_room c =
    let a = c.args in
    let r = a.routes.now in
    let d = a.discoveries.now in
    let t = lent r d in
    record {
      memory = unmoved r d;
      left = leaves-refused t (formed r d) RouteTableFull _ (full-routes a.originator a.sender a.cost a.many_to_one a.id a.d c.requires a.now_ms t (formed r d) (asked-route a.now_ms a.originator.0 c.seen.result c.seen-2.result t c.seen.ensures c.seen-2.ensures _ _ c.route_room.ensures (not-true _ c.if-not-route_room.true-raw)));
    }

pub returns-then-not-discovery_room : goal.returns-then-not-discovery_room
returns-then-not-discovery_room c =
    let a = c.args in
    let r = a.routes.now in
    let d = a.discoveries.now in
    let t = lent r d in
    record {
      memory = unmoved r d;
      left = leaves-refused t (formed r d) DiscoveryTableFull _ (full-discoveries a.originator a.sender a.cost a.many_to_one a.id a.d c.requires a.now_ms t (formed r d) (asked-route a.now_ms a.originator.0 c.seen.result c.seen-2.result t c.seen.ensures c.seen-2.ensures _ _ c.route_room.ensures (not-false _ c.if-not-route_room.false-raw)) (asked-discovery a.now_ms (pair_key a.originator a.id) c.seen-3.result t.discoveries c.seen-3.ensures _ _ c.discovery_room.ensures (not-true _ c.if-not-discovery_room.true-raw)));
    }

pub store-requires : goal.store-requires
store-requires c =
    let a = c.args in
    let r = a.routes.now in
    let d = a.discoveries.now in
    let t = lent r d in
    (c.requires, subst (Room a.originator a.id) (sym c.expire.ensures.left.rows) (has_room a.originator a.sender a.cost a.many_to_one a.id a.d c.requires a.now_ms t (formed r d) (asked-route a.now_ms a.originator.0 c.seen.result c.seen-2.result t c.seen.ensures c.seen-2.ensures _ _ c.route_room.ensures (not-false _ c.if-not-route_room.false-raw)) (asked-discovery a.now_ms (pair_key a.originator a.id) c.seen-3.result t.discoveries c.seen-3.ensures _ _ c.discovery_room.ensures (not-false _ c.if-not-discovery_room.false-raw))))

pub returns : goal.returns
returns c =
    let a = c.args in
    let r = a.routes.now in
    let d = a.discoveries.now in
    let t = lent r d in
    record {
      memory = memory-on _ _ _ _ _ _ c.expire.ensures.memory c.store.ensures.memory;
      left =
          leaves-stored a.originator a.sender a.cost a.many_to_one a.id a.d c.requires a.now_ms t (formed r d) _ c.expire.ensures.left
          (has_room a.originator a.sender a.cost a.many_to_one a.id a.d c.requires a.now_ms t (formed r d) (asked-route a.now_ms a.originator.0 c.seen.result c.seen-2.result t c.seen.ensures c.seen-2.ensures _ _ c.route_room.ensures (not-false _ c.if-not-route_room.false-raw)) (asked-discovery a.now_ms (pair_key a.originator a.id) c.seen-3.result t.discoveries c.seen-3.ensures _ _ c.discovery_room.ensures (not-false _ c.if-not-discovery_room.false-raw))) _ _ c.store.ensures.left;
    }
