-- What is put so far, with the elements that are left, is the whole list.
use Prim.Native.Nat.{◌+◌}
use mathlib.Core.Path.{sym, ap, ◌∙◌}
use native.Mathlib.Omega.{arith}
use Rattle.neighbor_values.proofs.Pushes.{from, next, all_done}
use Rattle.neighbor_values.specs.Values.{child_numbers}
use Rattle.numbers.specs.Said.{pushed_all}
use Rattle.numbers.specs.declared.Numbers.{Numbers}
use Rattle.neighbor_values.proofs.push_children.Goals as goal

pub loop-i-preserved : goal.loop-i-preserved
loop-i-preserved c =
    let v = c.loop-i in
    ap (λ (m : Numbers). pushed_all m (from child_numbers c.args.list.children c.args.list.count (v.i + 1))) c.push_child-m.ensures
    ∙ sym (next child_numbers c.args.list.children c.args.list.count v.m v.i _ (omega (arith, c.min-end.ensures)))
    ∙ v.invariant

pub returns : goal.returns
returns c =
    let v = c.loop-i in
    sym (all_done child_numbers c.args.list.children c.args.list.count v.m v.i (omega (arith, c.min-end.ensures)))
    ∙ v.invariant
    ∙ ap (λ (m : Numbers). pushed_all m (from child_numbers c.args.list.children c.args.list.count 0)) c.push-m.ensures
