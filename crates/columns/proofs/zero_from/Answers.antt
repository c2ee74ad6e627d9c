-- The answer so far tells of the places passed.
use mathlib.Core.Path.{ap, sym, ◌∙◌}
use native.Mathlib.Omega.{arith}
use Rattle.columns.proofs.Tested.{passed_none, passed-more, read_zero, zero-told}
use Rattle.columns.proofs.zero_from.Goals as goal

pub loop-i-init : goal.loop-i-init
loop-i-init g c = passed_none _ _

pub loop-i-preserved : goal.loop-i-preserved
loop-i-preserved g c =
    let v = c.loop-i in
    let m = g.T.Number in
    let law = g.met.T.Number in
    let item = c.index-a-i.result in
    passed-more _ c.args.n v.i _ _ v.auto.i
    (read_zero _ (m.nat item) (m.nat c.default-zero.result) _ (m.nats_at c.args.a.now v.i item c.loop-i-test.true ∙ ap m.nat (sym c.index-a-i.is)) (law.zero _ c.default-zero.ensures) (c.eq-ok.ensures ∙ law.equal item c.default-zero.result))
    v.invariant

pub returns : goal.returns
returns g c =
    let v = c.loop-i in
    zero-told _ v.i _ c.args.n (omega (arith, g.T.Number.nats_length c.args.a.now, c.loop-i-test.false)) v.invariant
