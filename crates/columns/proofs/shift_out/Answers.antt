-- At each turn the rest of the shift, done now, gives the whole shift.
use Prim.Native.Nat.{ℕ, ◌+◌, ◌-◌, ◌<◌}
use mathlib.Core.Path.{◌≡◌, refl, sym, ap, ◌∙◌}
use lib.ListN.{length, set}
use Rattle.flat_map.specs.Shift.{shift_out}
use Rattle.flat_map.proofs.Shift.{shift-out-step, shift-out-end}
use native.Mathlib.Omega.{arith}
use Rattle.columns.proofs.shift_out.Goals as goal

pub loop-j-init : goal.loop-j-init
loop-j-init g c = refl

pub loop-j-preserved : goal.loop-j-preserved
loop-j-preserved g c =
    let v = c.loop-j in
    let item = c.index-a-j.result in
    let within : v.j + 1 < length v.a = omega (arith, c.loop-j-test.true, v.auto.a) in
    ap (λ x. shift_out (v.j + 1) c.args.blank (set v.a v.j x)) c.index-a-j.is
    ∙ shift-out-step v.a v.j c.args.blank item within ∙ v.invariant

pub returns : goal.returns
returns g c =
    let v = c.loop-j in
    let last = length c.args.a.now - 1 in
    let e : v.j ≡ last = omega (arith, v.auto.j-end, c.loop-j-test.false, c.requires) in
    sym (shift-out-end v.a last c.args.blank (omega (arith, v.auto.a, c.requires)))
    ∙ ap (λ (n : ℕ). shift_out n c.args.blank v.a) (sym e) ∙ v.invariant
