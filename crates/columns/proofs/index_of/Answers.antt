-- The keys before `r` are below the one looked for, and those from there up to `i` are not.
use Prim.Native.Nat.{ℕ, ◌≤◌, ◌+◌}
use mathlib.Core.Path.{◌≡◌, sym, ap, subst, ◌∙◌}
use native.Mathlib.Omega.{arith}
use lib.Dec.{ltb}
use lib.ListN.{length, get_or}
use borrow.Author.Tests.{eqb-true, eqb-false}
use Rattle.columns.proofs.Split.{Split, split_none, one_more, found_there, missing_there}
use Rattle.columns.proofs.index_of.Goals.{else-at-count-via-then-at-count+else-eq, else-at-count-via-else-at-count}
use Rattle.columns.proofs.index_of.Goals as goal

pub loop-i-init : goal.loop-i-init
loop-i-init g c =
    let xs = g.K.Number.nats c.args.keys.now in
    let k = g.K.Number.nat c.args.key in
    subst (λ (n : ℕ). Split xs k n 0) (sym c.nought-r.ensures) (split_none xs k)

pub and-r-requires : goal.and-r-requires
and-r-requires g c = omega (arith, c.loop-i.invariant.0, c.loop-i-test.true, c.requires.1)

pub loop-i-preserved : goal.loop-i-preserved
loop-i-preserved g c =
    let v = c.loop-i in
    let m = g.K.Number in
    let law = g.met.K.Number in
    let a = c.args in
    let item = c.index-keys-i.result in
    let read : get_or (m.nats a.keys.now) v.i 0 ≡ m.nat item = m.nats_at a.keys.now v.i item (omega (arith, c.loop-i-test.true, c.requires.0)) ∙ ap m.nat (sym c.index-keys-i.is) in
    subst (λ (n : ℕ). Split (m.nats a.keys.now) (m.nat a.key) n (v.i + 1)) (sym c.and-r.ensures)
    (one_more (m.nats a.keys.now) a.count (m.nat a.key) (m.nat v.r) v.i _ (ap (λ (n : ℕ). ltb n (m.nat a.key)) read ∙ sym (law.below item a.key) ∙ sym c.lt.ensures) c.requires.2 c.loop-i-test.true v.invariant)

pub returns-then-eq : goal.returns-then-eq
returns-then-eq g c =
    let v = c.loop-i in
    let m = g.K.Number in
    let a = c.args in
    let xs = m.nats a.keys.now in
    let at = c.place-at.result in
    let item = c.index-keys-at.result in
    let long : a.count ≤ length xs = omega (arith, m.nats_length a.keys.now, c.requires.0) in
    let end : v.i ≡ a.count = omega (arith, v.auto.i-end, c.loop-i-test.false) in
    found_there xs a.count (m.nat a.key) (m.nat v.r) at long c.place-at.ensures (subst (Split xs (m.nat a.key) (m.nat v.r)) end v.invariant) c.if-at-count.true
    (m.nats_at a.keys.now at item (omega (arith, c.if-at-count.true, c.requires.0)) ∙ ap m.nat (sym c.index-keys-at.is) ∙ eqb-true (m.nat item) (m.nat a.key) (sym (g.met.K.Number.equal item a.key) ∙ sym c.eq.ensures ∙ c.if-eq.true))

pub returns : goal.returns
returns g c =
    let v = c.loop-i in
    let m = g.K.Number in
    let a = c.args in
    let xs = m.nats a.keys.now in
    let at = c.place-at.result in
    let long : a.count ≤ length xs = omega (arith, m.nats_length a.keys.now, c.requires.0) in
    let end : v.i ≡ a.count = omega (arith, v.auto.i-end, c.loop-i-test.false) in
    missing_there xs a.count (m.nat a.key) (m.nat v.r) at long c.place-at.ensures (subst (Split xs (m.nat a.key) (m.nat v.r)) end v.invariant)
    (elim c.else-at-count.branch [
      | else-at-count-via-then-at-count+else-eq w ↦ λ l q.
          let item = w.index-keys-at.result in
          let read : get_or xs at 0 ≡ m.nat item = m.nats_at a.keys.now at item (omega (arith, l, c.requires.0)) ∙ ap m.nat (sym w.index-keys-at.is) in
          eqb-false (m.nat item) (m.nat a.key) (sym (g.met.K.Number.equal item a.key) ∙ sym w.eq.ensures ∙ w.if-eq.false) (sym read ∙ q)
      | else-at-count-via-else-at-count w ↦ λ l _. absurd (omega (arith, l, w.if-at-count.false))
    ])
