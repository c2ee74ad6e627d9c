-- By what the two places are, as the rule goes; what stands in a place is held under its own key.
-- Assumes nothing.
use Rattle.std.specs.Prelude.{Ok}
use borrow.Author.Tests.{eqb-true, eqb-false}
use mathlib.Core.Path.{◌≡◌, sym, ap, ◌∙◌}
use native.Mathlib.Omega.{arith}
use Rattle.standard.specs.Discovery.{pair_key}
use Rattle.route_table.specs.Lent as routes
use Rattle.route_table.specs.Table.{RouteTable}
use Rattle.route_table.proofs.Rows as routes-rows
use Rattle.discovery_table.specs.Lent as discoveries
use Rattle.discovery_table.specs.Table.{DiscoveryTable}
use Rattle.discovery_table.proofs.Rows as discoveries-rows
use Rattle.search_tables.specs.Packed.{tables_of}
use Rattle.search_tables.specs.Lent.{lent_values}
use Rattle.search_tables.proofs.Lent.{values-formed, values-unmoved}
use Rattle.route_reply.proofs.Rules.{leaves-as, no-pair, no-route, held, ours, theirs}
use Rattle.route_reply.proofs.reply.Goals as goal
use Rattle.route_reply.proofs.reply.Goals.{In-Ok, In-Ok-place_of}

pair-at : (c : In-Ok) → let a = c.args in Ok c.in-Ok.i ≡ discoveries.place_in (discoveries.value_table a.discoveries.now) (pair_key a.originator a.id)
pair-at c = sym c.in-Ok.is ∙ c.place_of.ensures ∙ ap (λ (u : DiscoveryTable). discoveries.place_in u (pair_key c.args.originator c.args.id)) c.seen.ensures

route-at : (c : In-Ok-place_of) → let a = c.args in Ok c.in-Ok-place_of.j ≡ routes.place_in (routes.table a.routes.now) a.responder.0
route-at c = sym c.in-Ok-place_of.is ∙ c.place_of-2.ensures ∙ ap (λ (u : RouteTable). routes.place_in u c.args.responder.0) c.seen-2.ensures

pub returns-in_default : goal.returns-in_default
returns-in_default c =
    let a = c.args in
    let t = lent_values a.routes.now a.discoveries.now in
    let w = values-formed a.routes.now a.discoveries.now in
    record {
      memory = values-unmoved a.routes.now a.discoveries.now;
      left = no-pair t w a.own a.originator a.responder a.sender a.id a.cost _ (sym c.in_default.is ∙ c.place_of.ensures ∙ ap (λ (u : DiscoveryTable). discoveries.place_in u (pair_key a.originator a.id)) c.seen.ensures);
    }

pub returns-in_default-place_of : goal.returns-in_default-place_of
returns-in_default-place_of c =
    let a = c.args in
    let t = lent_values a.routes.now a.discoveries.now in
    let w = values-formed a.routes.now a.discoveries.now in
    record {
      memory = values-unmoved a.routes.now a.discoveries.now;
      left =
          no-route t w a.own a.originator a.responder a.sender a.id a.cost _ (pair-at (goal.at.returns-in_default-place_of c).In-Ok) _
          (sym c.in_default-place_of.is ∙ c.place_of-2.ensures ∙ ap (λ (u : RouteTable). routes.place_in u a.responder.0) c.seen-2.ensures);
    }

pub entry_at-d-requires : goal.entry_at-d-requires
entry_at-d-requires c =
    let a = c.args in
    let t = lent_values a.routes.now a.discoveries.now in
    let w = values-formed a.routes.now a.discoveries.now in
    omega (arith, discoveries-rows.place-within t.discoveries w.discoveries _ _ (pair-at (goal.at.entry_at-d-requires c).In-Ok), w.discoveries.ordered.small)

pub entry_at-e-requires : goal.entry_at-e-requires
entry_at-e-requires c =
    let a = c.args in
    let t = lent_values a.routes.now a.discoveries.now in
    let w = values-formed a.routes.now a.discoveries.now in
    omega (arith, routes-rows.place-within t.routes w.routes _ _ (route-at (goal.at.entry_at-e-requires c).In-Ok-place_of), w.routes.ordered.small)

pub reply_ours-requires : goal.reply_ours-requires
reply_ours-requires c =
    let a = c.args in
    let t = lent_values a.routes.now a.discoveries.now in
    let w = values-formed a.routes.now a.discoveries.now in
    held t w a.own a.originator a.responder a.sender a.id a.cost _ (pair-at (goal.at.reply_ours-requires c).In-Ok) _ (route-at (goal.at.reply_ours-requires c).In-Ok-place_of) _ _
    (c.entry_at-d.ensures ∙ ap (λ (u : DiscoveryTable). discoveries.read_at u c.in-Ok.i) c.seen-3.ensures) (c.entry_at-e.ensures ∙ ap (λ (u : RouteTable). routes.read_at u c.in-Ok-place_of.j) c.seen-4.ensures)

pub returns-then-eq : goal.returns-then-eq
returns-then-eq c =
    let a = c.args in
    let t = lent_values a.routes.now a.discoveries.now in
    let w = values-formed a.routes.now a.discoveries.now in
    record {
      memory = c.reply_ours.ensures.memory;
      left =
          leaves-as _ (tables_of t) _ _ _
          (ours t w a.own a.originator a.responder a.sender a.id a.cost _ (pair-at (goal.at.returns-then-eq c).In-Ok) _ (route-at (goal.at.returns-then-eq c).In-Ok-place_of) _ _
          (c.entry_at-d.ensures ∙ ap (λ (u : DiscoveryTable). discoveries.read_at u c.in-Ok.i) c.seen-3.ensures) (c.entry_at-e.ensures ∙ ap (λ (u : RouteTable). routes.read_at u c.in-Ok-place_of.j) c.seen-4.ensures)
          (eqb-true a.originator.0 a.own.0 (sym c.eq.ensures ∙ c.if-eq.true))) c.reply_ours.ensures.left;
    }

pub reply_theirs-requires : goal.reply_theirs-requires
reply_theirs-requires c =
    let a = c.args in
    let t = lent_values a.routes.now a.discoveries.now in
    let w = values-formed a.routes.now a.discoveries.now in
    held t w a.own a.originator a.responder a.sender a.id a.cost _ (pair-at (goal.at.reply_theirs-requires c).In-Ok) _ (route-at (goal.at.reply_theirs-requires c).In-Ok-place_of) _ _
    (c.entry_at-d.ensures ∙ ap (λ (u : DiscoveryTable). discoveries.read_at u c.in-Ok.i) c.seen-3.ensures) (c.entry_at-e.ensures ∙ ap (λ (u : RouteTable). routes.read_at u c.in-Ok-place_of.j) c.seen-4.ensures)

pub returns : goal.returns
returns c =
    let a = c.args in
    let t = lent_values a.routes.now a.discoveries.now in
    let w = values-formed a.routes.now a.discoveries.now in
    record {
      memory = c.reply_theirs.ensures.memory;
      left =
          leaves-as _ (tables_of t) _ _ _
          (theirs t w a.own a.originator a.responder a.sender a.id a.cost _ (pair-at (goal.at.returns c).In-Ok) _ (route-at (goal.at.returns c).In-Ok-place_of) _ _
          (c.entry_at-d.ensures ∙ ap (λ (u : DiscoveryTable). discoveries.read_at u c.in-Ok.i) c.seen-3.ensures) (c.entry_at-e.ensures ∙ ap (λ (u : RouteTable). routes.read_at u c.in-Ok-place_of.j) c.seen-4.ensures)
          (eqb-false a.originator.0 a.own.0 (sym c.eq.ensures ∙ c.if-eq.false))) c.reply_theirs.ensures.left;
    }
