-- The bytes passed are those of the word.
-- Assumes nothing.
use mathlib.Core.Path.{sym, ◌∙◌}
use lib.ListN.{drop}
use Rattle.words.proofs.Search.{past-none, past-other, past_next}
use native.Mathlib.Omega.{arith}
use Rattle.words.proofs.past.Goals as goal

pub returns-then-table-j : goal.returns-then-table-j
returns-then-table-j c =
    let v = c.loop-b in
    let a = c.args in
    sym (past-none a.table.now v.j (drop v.b-index a.word.now) c.if-table-j.true) ∙ v.invariant

pub returns-then-table-j-2 : goal.returns-then-table-j-2
returns-then-table-j-2 c =
    let v = c.loop-b in
    let a = c.args in
    sym (past-other a.table.now v.j a.word.now v.b-index (omega arith) (omega arith) c.if-table-j-2.true) ∙ v.invariant

pub loop-b-preserved : goal.loop-b-preserved
loop-b-preserved c =
    let v = c.loop-b in
    let a = c.args in
    sym (past_next a.table.now v.j a.word.now v.b-index (omega arith) (omega arith) c.if-table-j-2.false) ∙ v.invariant
