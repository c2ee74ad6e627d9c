-- The answer so far tells of the steps passed.
use Prim.Native.Nat.{ℕ, ◌-◌, ◌+◌, ◌≤◌}
use mathlib.Core.Path.{ap, sym, ◌≡◌, ◌∙◌, subst}
use mathlib.Core.Bool.{◌&&◌}
use lib.ListN.{get_or}
use native.Mathlib.Omega.{arith}
use Rattle.standard.specs.Tells.{Tells}
use Rattle.columns.proofs.Tested.{Passed, Steps, passed_none, passed-more, read_below, step-told, rising-told}
use Rattle.columns.proofs.rising.Goals as goal

pub loop-i-init : goal.loop-i-init
loop-i-init g c = passed_none _ 0

pub loop-i-preserved : goal.loop-i-preserved
loop-i-preserved g c =
    let v = c.loop-i in
    let m = g.T.Number in
    let law = g.met.T.Number in
    let xs = c.args.keys.now in
    let a = c.index-keys-i.result in
    let b = c.index-keys-i-in-loop-i.result in
    let j = v.i - 1 in
    let up : 1 ≤ v.i = v.auto.i in
    let next : j + 1 ≡ v.i = omega (arith, up) in
    let last : v.i + 1 - 1 ≡ j + 1 = omega (arith, up) in
    let told = read_below _ (m.nat a) (get_or (m.nats xs) (j + 1) 0) (m.nat b) c.lt-ok.result
    (m.nats_at xs j a (omega (arith, c.loop-i-test.true, c.requires)) ∙ ap m.nat (sym c.index-keys-i.is))
    (ap (λ (k : ℕ). get_or (m.nats xs) k 0) next ∙ m.nats_at xs v.i b (omega (arith, c.loop-i-test.true, c.requires)) ∙ ap m.nat (sym c.index-keys-i-in-loop-i.is))
    (c.lt-ok.ensures ∙ law.below a b) in
    subst (λ (k : ℕ). Tells (Passed (Steps (m.nats xs) c.args.count) 0 k) (v.ok && c.lt-ok.result)) (sym last)
    (passed-more _ 0 j _ _ (omega arith) (step-told (m.nats xs) c.args.count j _ (omega (arith, c.loop-i-test.true, next)) told) v.invariant)

pub returns : goal.returns
returns g c =
    let v = c.loop-i in
    rising-told _ (v.i - 1) _ c.args.count (omega (arith, c.loop-i-test.false)) v.invariant
