-- At each turn the rest of the sweep, done now, gives the discoveries that are live; the same columns are lent.
-- The measure is the rows not passed, which a removal lessens too.
use mathlib.Core.Path.{refl, sym, subst, ◌∙◌}
use native.Mathlib.Omega.{arith}
use Rattle.standard.specs.Discovery.{live}
use Rattle.standard.specs.Ordered.{keep}
use Rattle.discovery_table.specs.Table.{DiscoveryTable}
use Rattle.discovery_table.specs.Lent.{discoveries_of}
use Rattle.discovery_table.proofs.Lent.{formed}
use Rattle.discovery_table.proofs.Swept.{Swept, begun, kept, taken, ended}
use Rattle.discovery_table.proofs.Discoveries.keep_live.Goals as goal

pub loop-i-init : goal.loop-i-init
loop-i-init c = (record { keys = refl; words = refl; ends = refl }, begun _ _ _ _ _ (formed c.args.self.now))

pub bounds-self-i : goal.bounds-self-i
bounds-self-i c = omega (arith, c.loop-i-test.true, (formed c.loop-i.self).ordered.small, (formed c.loop-i.self).ordered.long.1.1.0)

pub loop-i-preserved-then-now_ms-self : goal.loop-i-preserved-then-now_ms-self
loop-i-preserved-then-now_ms-self c =
    let v = c.loop-i in
    let d = v.self in
    (v.invariant.0, kept _ d.keys.now d.words.now d.ends.now d.count _ v.i v.invariant.1 (omega arith) c.if-now_ms-self.true)

pub loop-i-preserved : goal.loop-i-preserved
loop-i-preserved c =
    let a = c.args in
    let v = c.loop-i in
    let d = v.self in
    let s = c.remove_at.ensures.same in
    let left = taken _ d.keys.now d.words.now d.ends.now d.count _ v.i v.invariant.1 (omega arith) c.if-now_ms-self.false _ _ _ refl refl refl in (
      record { keys = s.keys ∙ v.invariant.0.keys; words = s.words ∙ v.invariant.0.words; ends = s.ends ∙ v.invariant.0.ends },
      subst (λ (t : DiscoveryTable). Swept a.now_ms (keep (live a.now_ms) (discoveries_of a.self.now)) t.keys t.words t.ends t.count v.i) (sym c.remove_at.ensures.out) left,
    )

pub returns : goal.returns
returns c =
    let v = c.loop-i in
    let d = v.self in
    record { same = v.invariant.0; discoveries = (ended _ d.keys.now d.words.now d.ends.now d.count _ v.i v.invariant.1 (omega arith)).rows }
