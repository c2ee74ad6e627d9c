-- The search from here on gives what the whole gives; no more lines than bytes are passed.
-- Assumes nothing.
use mathlib.Core.Path.{◌≡◌, sym, ◌∙◌}
use lib.Dec.{eqb}
use lib.ListN.{get_or}
use Rattle.words.proofs.Search.{seek-here, seek-on, seek-end, counted-most}
use native.Mathlib.Omega.{arith}
use Rattle.words.proofs.seek.Goals as goal

pub returns-then-place-gt0 : goal.returns-then-place-gt0
returns-then-place-gt0 c =
    let v = c.loop-at in
    let a = c.args in
    sym (seek-here a.word.now v.n v.at v.start a.table.now (omega arith) c.tried-place.ensures c.if-place-gt0.true) ∙ v.invariant.1

pub loop-at-preserved : goal.loop-at-preserved
loop-at-preserved c =
    let v = c.loop-at in
    let a = c.args in
    let e = c.counted-n.ensures in
    let z : c.tried-place.result ≡ 0 = omega arith in (
      omega (arith, e, counted-most v.n (eqb (get_or a.table.now v.at 0) 10)),
      rw e (sym (seek-on a.word.now v.n v.at v.start a.table.now (omega arith) (sym c.tried-place.ensures ∙ z)) ∙ v.invariant.1),
    )

pub returns : goal.returns
returns c =
    let v = c.loop-at in
    let a = c.args in
    sym (seek-end a.word.now v.n v.at v.start a.table.now (omega arith)) ∙ v.invariant.1
