-- A space at the place, or none.
-- Assumes nothing.
use mathlib.Core.Path.{sym}
use mathlib.Core.List.{[]}
use Rattle.words.proofs.Search.{past-none, space-here, no-space}
use native.Mathlib.Omega.{arith}
use Rattle.words.proofs.ended.Goals as goal

pub returns-then-table-j : goal.returns-then-table-j
returns-then-table-j c = sym (past-none c.args.table.now c.args.j [] c.if-table-j.true)

pub returns-then-table-j-eq32 : goal.returns-then-table-j-eq32
returns-then-table-j-eq32 c =
    let a = c.args in
    sym (space-here a.table.now a.j (omega arith) c.if-table-j-eq32.true)

pub returns : goal.returns
returns c =
    let a = c.args in
    sym (no-space a.table.now a.j (omega arith) c.if-table-j-eq32.false)
