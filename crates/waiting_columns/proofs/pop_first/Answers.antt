-- Where there is a first place it is taken out of each column, which takes the first entry out of the rows.
use native.Mathlib.Omega.{arith}
use Rattle.waiting_columns.specs.Table.{in_columns}
use Rattle.waiting_columns.proofs.Rows.{in-columns, first_out, empty-out}
use Rattle.waiting_columns.proofs.pop_first.Goals as goal

pub returns-then-count-eq0 : goal.returns-then-count-eq0
returns-then-count-eq0 c =
    let a = c.args in
    let t = in_columns a.keys.now a.samples.now a.count in
    empty-out t c.requires c.if-count-eq0.true

pub out_at-requires : goal.out_at-requires
out_at-requires c =
    let a = c.args in
    let t = in_columns a.keys.now a.samples.now a.count in
    in-columns t c.requires 0 (omega (arith, c.if-count-eq0.false))

pub returns : goal.returns
returns c =
    let a = c.args in
    let t = in_columns a.keys.now a.samples.now a.count in
    let q = c.out_at.ensures in
    rw (q.0, q.1) (first_out t c.requires (omega (arith, c.if-count-eq0.false)))
