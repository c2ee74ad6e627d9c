-- No route that is passed goes, so whether one of the rest goes is whether one of all goes.
use mathlib.Core.Bool.{not}
use mathlib.Core.Path.{sym, ap, ◌∙◌}
use native.Mathlib.Omega.{arith}
use Rattle.route_table.specs.Lent.{seen_table}
use Rattle.route_table.proofs.Lent.{seen-formed}
use Rattle.expiry.proofs.Pending.{one-fits, not-this, none-fits}
use Rattle.expiry.proofs.frees_route.Goals as goal

pub entry_at-e-requires : goal.entry_at-e-requires
entry_at-e-requires c = omega (arith, c.loop-i-test.true, (seen-formed c.args.routes.now).ordered.small)

pub returns-then-not-stays : goal.returns-then-not-stays
returns-then-not-stays c =
    let r = c.args.routes.now in
    one-fits (seen_table r) (seen-formed r) _ c.loop-i.i c.loop-i.invariant _ c.entry_at-e.ensures (omega arith) (ap not (sym c.stays.ensures) ∙ c.if-not-stays.true-raw)

pub loop-i-preserved : goal.loop-i-preserved
loop-i-preserved c =
    let r = c.args.routes.now in
    not-this (seen_table r) (seen-formed r) _ c.loop-i.i c.loop-i.invariant _ c.entry_at-e.ensures (omega arith) (ap not (sym c.stays.ensures) ∙ c.if-not-stays.false-raw)

pub returns : goal.returns
returns c =
    let r = c.args.routes.now in
    none-fits (seen_table r) (seen-formed r) _ c.loop-i.i c.loop-i.invariant (omega arith)
