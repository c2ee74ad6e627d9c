-- The answer so far tells of the places passed.
use mathlib.Core.Path.{ap, sym, refl, ◌∙◌}
use native.Mathlib.Omega.{arith}
use Rattle.columns.proofs.Tested.{passed_none, passed-more, read_below, under-told}
use Rattle.columns.proofs.under.Goals as goal

pub loop-x-init : goal.loop-x-init
loop-x-init g c = (omega arith, passed_none _ 0)

pub loop-x-preserved : goal.loop-x-preserved
loop-x-preserved g c =
    let v = c.loop-x in
    let m = g.T.Number in
    let law = g.met.T.Number in
    let item = c.x-item.result in (
      omega arith,
      passed-more _ 0 v.x-index _ _ (omega arith)
          (read_below _ (m.nat item) _ _ _ (m.nats_at c.args.a.now v.x-index item c.loop-x-test.true ∙ ap m.nat (sym c.x-item.is)) refl (c.lt-ok.ensures ∙ law.below item c.args.m))
          v.invariant.1,
    )

pub returns : goal.returns
returns g c =
    let v = c.loop-x in
    under-told _ v.x-index _ _ c.requires (omega (arith, g.T.Number.nats_length c.args.a.now, c.loop-x-test.false)) v.invariant.1
