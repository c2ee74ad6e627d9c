-- The numbers written so far, and those of the rows left, are those of all, in every table with these columns.
use Prim.Native.Nat.{◌+◌}
use native.Mathlib.Omega.{arith}
use mathlib.Core.List.{map}
use mathlib.Core.Path.{sym, ◌∙◌}
use lib.ListN.{drop}
use Rattle.neighbor_columns.specs.Table.{rows_of, row_at}
use Rattle.neighbor_columns.proofs.Rows.{next-read}
use Rattle.link_status.specs.Statuses.{live_number}
use Rattle.link_status.proofs.Live.{numbered}
use Rattle.link_status_lent.specs.Columns.{lent_live}
use Rattle.link_status_lent.proofs.Rows.{number_read}
use Rattle.link_status_lent.proofs.live_numbers.Goals as goal

pub loop-i-preserved : goal.loop-i-preserved
loop-i-preserved c =
    let v = c.loop-i in
    let a = c.args in
    λ t f. let u = lent_live a.nwks.now a.links.now a.count t in
    numbered live_number v.numbers v.i (map live_number (rows_of u)) _ (row_at u v.i) (drop v.i (rows_of u)) (drop (v.i + 1) (rows_of u)) (omega (arith, c.requires.3, c.loop-i-test.true)) (c.live_number.ensures ∙ sym (number_read _ _ _ _ _ _ _ _ _ _)) (next-read u f v.i c.loop-i-test.true) (v.invariant t f)
