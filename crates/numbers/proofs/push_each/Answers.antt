-- What is put already, and the rest put after it, is the whole list put.
use Prim.Native.Nat.{◌+◌, ◌≤◌, ◌<◌, ◌-◌}
use mathlib.Core.Path.{refl, ◌∙◌, ap}
use native.Mathlib.Omega.{arith}
use lib.ListN.{length, drop, drop_of_length-le}
use borrow.Author.Rules.{rules}
use Rattle.numbers.specs.declared.Numbers.{Numbers}
use Rattle.numbers.specs.Said.{pushed_all}
use Rattle.numbers.proofs.Pushed.{put_one}
use Rattle.numbers.proofs.push_each.Goals as goal

pub loop-x-init : goal.loop-x-init
loop-x-init c = (search rules, refl)

pub loop-x-preserved : goal.loop-x-preserved
loop-x-preserved c =
    let a = c.args in
    let l = c.loop-x in
    let h : l.x-index < length a.xs.now = search rules in
    (search rules, ap (λ (m : Numbers). pushed_all m (drop (l.x-index + 1) a.xs.now)) c.push-m.ensures ∙ put_one l.m a.xs.now l.x-index h ∙ l.invariant.1)

pub returns : goal.returns
returns c =
    let l = c.loop-x in
    let h : length c.args.xs.now ≤ l.x-index = omega arith in
    rw drop_of_length-le at l.invariant.1
