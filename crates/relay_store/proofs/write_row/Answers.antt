-- At each turn the row agrees with the one to be written in the numbers passed; at the end in all of them.
use native.Mathlib.Omega.{arith}
use mathlib.Core.Path.{◌≡◌, sym}
use lib.ListN.{length, drop}
use Rattle.flat_map.proofs.Shift.{unmapped}
use Rattle.relay_store.specs.Store.{row_of, relays_of}
use Rattle.relay_store.proofs.Cells.{same_whole, cell_in, cell-after, cell-written}
use Rattle.relay_store.proofs.Shifts.{wide_of}
use borrow.Author.Rules.{rules}
use Rattle.relay_store.proofs.write_row.Goals as goal
use Rattle.relay_store.proofs.write_row.Goals.{then-i-n, else-i-n}

pub loop-i-preserved : goal.loop-i-preserved
loop-i-preserved c =
    let v = c.loop-i in
    let l = c.args.l in
    let from = c.args.from in
    let long : length l.addresses ≡ 32 = search (rules, unmapped) in
    let w = wide_of (drop from (relays_of l)) in
    elim c.if-i-n.branch [
      | then-i-n u ↦ let p = cell-written (row_of (drop from (relays_of l))) v.row c.if-i-n.row v.i _ w u.row-is (sym (cell_in l from v.i long c.requires.0 c.requires.1 u.if-i-n.true)) (omega arith) v.invariant.0 v.invariant.1 in p
      | else-i-n u ↦ let p = cell-written (row_of (drop from (relays_of l))) v.row c.if-i-n.row v.i 0 w u.row-is (sym (cell-after l from v.i long c.requires.0 c.requires.1 u.if-i-n.false)) (omega arith) v.invariant.0 v.invariant.1 in p
    ]

pub returns : goal.returns
returns c =
    let v = c.loop-i in
    let l = c.args.l in
    let from = c.args.from in
    let n : v.i ≡ 32 = omega arith in
    same_whole v.row (row_of (drop from (relays_of l))) 32 v.invariant.0 (wide_of (drop from (relays_of l))) (rw n at v.invariant.1)
