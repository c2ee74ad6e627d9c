-- The first faulty row of those that are left is the first of all rows, since none of those passed is faulty.
use mathlib.Core.Path.{sym, ap, ◌∙◌}
use native.Mathlib.Omega.{arith}
use Rattle.standard.specs.Calls.{is_faulty, first_fault}
use Rattle.flat_map.proofs.Query.{first-here, first_past, first_done}
use Rattle.discovery_table.specs.Lent.{seen_discoveries}
use Rattle.route_table.specs.Lent.{seen_table}
use Rattle.route_table.proofs.Lent.{seen-formed}
use Rattle.route_calls.specs.Answer.{checked_by}
use Rattle.route_calls.proofs.Rules.{next-route, no-route}
use Rattle.route_calls.proofs.check.Goals as goal

pub entry_at-e-requires : goal.entry_at-e-requires
entry_at-e-requires c =
    let a = c.args in
    let r = a.routes.now in
    let t = seen_table r in
    omega (arith, c.loop-i-test.true, (seen-formed r).ordered.small)

pub returns-then-is_faulty : goal.returns-then-is_faulty
unfolding first_fault
returns-then-is_faulty c =
    let a = c.args in
    let r = a.routes.now in
    let t = seen_table r in
    let v = c.loop-i in
    c.fault_of.ensures
    ∙ ap checked_by (sym (first-here (is_faulty (seen_discoveries a.discoveries.now))
    (next-route t (seen-formed r) v.i c.loop-i-test.true _ c.entry_at-e.ensures)
    (sym c.is_faulty.ensures ∙ c.if-is_faulty.true))
    ∙ v.invariant)

pub loop-i-preserved : goal.loop-i-preserved
loop-i-preserved c =
    let a = c.args in
    let r = a.routes.now in
    let t = seen_table r in
    let v = c.loop-i in
    sym (first_past (is_faulty (seen_discoveries a.discoveries.now))
    (next-route t (seen-formed r) v.i c.loop-i-test.true _ c.entry_at-e.ensures)
    (sym c.is_faulty.ensures ∙ c.if-is_faulty.false))
    ∙ v.invariant

pub returns : goal.returns
unfolding first_fault
returns c =
    let a = c.args in
    let r = a.routes.now in
    let t = seen_table r in
    let v = c.loop-i in
    ap checked_by (sym (first_done (is_faulty (seen_discoveries a.discoveries.now)) (no-route t (seen-formed r) v.i c.loop-i-test.false)) ∙ v.invariant)
