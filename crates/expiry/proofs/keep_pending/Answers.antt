-- At each turn the rest of the sweep, done now, gives the routes that stay; the same columns are lent.
-- The measure is the rows not passed, which a removal lessens too.
use mathlib.Core.Path.{refl, sym, ap, subst, ◌∙◌}
use native.Mathlib.Omega.{arith}
use Rattle.standard.specs.Discovery.{live}
use Rattle.standard.specs.Expiry.{stays, expired}
use Rattle.standard.specs.Ordered.{keep}
use Rattle.discovery_table.specs.Lent.{seen_discoveries}
use Rattle.route_table.specs.Table.{RouteTable}
use Rattle.route_table.specs.Lent.{routes_of, read_at}
use Rattle.route_table.proofs.Lent.{formed}
use Rattle.expiry.proofs.Pending.{Swept, begun, kept, taken, ended}
use Rattle.expiry.proofs.keep_pending.Goals as goal

pub loop-i-init : goal.loop-i-init
loop-i-init c = (record { keys = refl; words = refl; usage = refl }, begun _ _ _ _ _ (formed c.args.routes.now))

pub entry_at-e-requires : goal.entry_at-e-requires
entry_at-e-requires c = omega (arith, (formed c.loop-i.routes).ordered.small)

pub loop-i-preserved-then-stays : goal.loop-i-preserved-then-stays
loop-i-preserved-then-stays c =
    let v = c.loop-i in
    let r = v.routes in
    (v.invariant.0, kept _ r.keys.now r.words.now r.usage.now r.count _ v.i v.invariant.1 _ (c.entry_at-e.ensures ∙ ap (λ (t : RouteTable). read_at t v.i) c.seen.ensures) (omega arith) (sym c.stays.ensures ∙ c.if-stays.true))

pub loop-i-preserved : goal.loop-i-preserved
loop-i-preserved c =
    let v = c.loop-i in
    let r = v.routes in
    let s = c.remove_at.ensures.same in
    let q = c.remove_at.ensures.out in
    let a = c.args in
    let ds = seen_discoveries a.discoveries.now in
    let p = stays ds (keep (live a.now_ms) ds) in
    let left = taken _ r.keys.now r.words.now r.usage.now r.count _ v.i v.invariant.1 _ (c.entry_at-e.ensures ∙ ap (λ (t : RouteTable). read_at t v.i) c.seen.ensures) (omega arith) (sym c.stays.ensures ∙ c.if-stays.false) _ _ _ refl refl refl in (
      record { keys = s.keys ∙ v.invariant.0.keys; words = s.words ∙ v.invariant.0.words; usage = s.usage ∙ v.invariant.0.usage },
      subst (λ (t : RouteTable). Swept p (keep p (routes_of a.routes.now)) t.keys t.words t.usage t.count v.i) (sym q) left,
    )

pub returns : goal.returns
unfolding expired
returns c =
    let v = c.loop-i in
    let r = v.routes in
    record { same = v.invariant.0; routes = (ended _ r.keys.now r.words.now r.usage.now r.count _ v.i v.invariant.1 (omega arith)).rows }
