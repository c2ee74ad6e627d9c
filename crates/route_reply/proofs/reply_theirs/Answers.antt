-- The test is the rule's. There is room for the originator's route exactly if its place says so; what is written keeps the keys, so
-- the place is the same after it, and the route found or made there is put in. Assumes nothing.
use Prim.Native.Nat.{ℕ}
use mathlib.Core.Path.{◌≡◌, sym, ap, ◌∙◌}
use borrow.Author.Tests.{not-true, not-false}
use lib.ListN.{take}
use Rattle.flat_map.specs.Seek.{place_of}
use Rattle.columns.specs.Room.{room_for}
use Rattle.standard.specs.Route.{route_or}
use Rattle.route_table.specs.Lent.{table, place_in}
use Rattle.route_table.specs.Table.{RouteTable, rows_of}
use Rattle.route_table.proofs.Lent as routes-lent
use Rattle.search_tables.specs.Packed.{tables_of}
use Rattle.search_tables.specs.Lent.{lent_values}
use Rattle.search_tables.proofs.Lent.{values-formed, values-unmoved, routes-on}
use Rattle.route_reply.proofs.Rules.{may-put, theirs-dropped, theirs-refused, theirs-taken}
use Rattle.route_reply.proofs.reply_theirs.Goals as goal
use Rattle.route_reply.proofs.reply_theirs.Goals.{After-write_reply}

pub returns-then-d-cost : goal.returns-then-d-cost
returns-then-d-cost c =
    let a = c.args in
    let t = lent_values a.routes.now a.discoveries.now in
    let w = values-formed a.routes.now a.discoveries.now in
    record {
      memory = values-unmoved a.routes.now a.discoveries.now;
      left = theirs-dropped t w a.sender a.cost a.d a.e a.originator c.if-d-cost.true;
    }

pub returns-then-not-has_room : goal.returns-then-not-has_room
returns-then-not-has_room c =
    let a = c.args in
    let t = lent_values a.routes.now a.discoveries.now in
    let w = values-formed a.routes.now a.discoveries.now in
    record {
      memory = values-unmoved a.routes.now a.discoveries.now;
      left = theirs-refused t w a.sender a.cost a.d a.e a.originator a.i a.j c.requires c.if-d-cost.false _ (c.place_of-back.ensures ∙ ap (λ (u : RouteTable). place_in u a.originator.0) c.seen.ensures) (sym c.has_room.ensures ∙ not-true _ c.if-not-has_room.true-raw);
    }

-- the place is the same after what is written, and the room
still-there : (c : After-write_reply) → c.place_of-back.result ≡ place_in (table c.write_reply.new.routes) c.args.originator.0
still-there c =
    let k = c.write_reply.ensures.kept in
    c.place_of-back.ensures ∙ ap (λ (u : RouteTable). place_in u c.args.originator.0) c.seen.ensures ∙ (λ z. place_of (take (sym k.count z) (sym k.keys z)) c.args.originator.0)

pub route_or-o-requires : goal.route_or-o-requires
route_or-o-requires c = still-there (goal.at.route_or-o-requires c).After-write_reply ∙ ap (λ (u : RouteTable). place_in u c.args.originator.0) (sym c.seen-2.ensures)

pub put_at-requires : goal.put_at-requires
put_at-requires c =
    let a = c.args in
    let r = c.write_reply.new.routes in
    let d = c.write_reply.new.discoveries in
    may-put (lent_values r d) (values-formed r d) a.originator a.d.sender_address a.d.forward_cost _ (still-there (goal.at.put_at-requires c).After-write_reply)
    (ap (λ (n : ℕ). room_for c.place_of-back.result n 64) c.write_reply.ensures.kept.count ∙ sym c.has_room.ensures ∙ not-false _ c.if-not-has_room.false-raw) _ _
    (c.route_or-o.ensures ∙ ap (λ (u : RouteTable). route_or a.originator (rows_of u)) c.seen-2.ensures) c.considered-o2.ensures

pub returns : goal.returns
returns c =
    let a = c.args in
    let t = lent_values a.routes.now a.discoveries.now in
    let m = c.write_reply.ensures.memory in
    record {
      memory = record { routes = routes-on _ _ _ m.routes c.put_at.ensures.same; keys = m.keys; words = m.words; ends = m.ends; count = m.count };
      left =
          theirs-taken (lent_values c.write_reply.new.routes c.write_reply.new.discoveries) (tables_of t) a.sender a.cost a.d a.e c.write_reply.ensures.left _ a.originator (table c.put_at.new.self) _ _
          (c.route_or-o.ensures ∙ ap (λ (u : RouteTable). route_or a.originator (rows_of u)) c.seen-2.ensures) c.considered-o2.ensures c.if-d-cost.false (routes-lent.holds c.put_at.new.self _ c.put_at.ensures.routes) c.considering.ensures;
    }
