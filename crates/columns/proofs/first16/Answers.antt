-- The places passed have been walked through, and the first of them is kept.
use Prim.Native.Nat.{ℕ, ◌+◌, min}
use mathlib.Core.Path.{sym, subst, ◌∙◌, ap}
use Rattle.columns.proofs.First.{Sought, sought-none, sought-more, sought-done}
use Rattle.columns.proofs.first16.Goals as goal

pub loop-i-init : goal.loop-i-init
loop-i-init c = sought-none _ _ _

pub loop-i-preserved : goal.loop-i-preserved
loop-i-preserved c =
    let v = c.loop-i in
    let a = c.args in
    subst (Sought a.numbers.now a.count a.x (v.i + 1)) (sym (c.min-r.ensures ∙ ap (λ (p : ℕ). min p v.r) c.place_or-here.ensures))
    (sought-more a.numbers.now a.count a.x v.i v.r c.loop-i-test.true v.invariant)

pub returns : goal.returns
returns c =
    let v = c.loop-i in
    let a = c.args in
    sought-done a.numbers.now a.count a.x v.i v.r c.loop-i-test.false v.invariant
