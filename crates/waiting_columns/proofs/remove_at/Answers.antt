-- The place is that of the address, so that it is in use, and what is taken out of each column there
-- is `remove` on the entries.
use native.Mathlib.Omega.{arith}
use Rattle.waiting_columns.specs.Table.{in_columns}
use Rattle.waiting_columns.proofs.Rows.{in-columns, place-within, taken_out}
use Rattle.waiting_columns.proofs.remove_at.Goals as goal

pub out_at-requires : goal.out_at-requires
out_at-requires c =
    let a = c.args in
    let t = in_columns a.keys.now a.samples.now a.count in
    in-columns t c.requires.0 _ (place-within t c.requires.0 _ _ c.requires.1)

pub overflow_sub-result : goal.overflow_sub-result
overflow_sub-result c =
    let a = c.args in
    let t = in_columns a.keys.now a.samples.now a.count in
    omega (arith, place-within t c.requires.0 _ _ c.requires.1)

pub returns : goal.returns
returns c =
    let a = c.args in
    let t = in_columns a.keys.now a.samples.now a.count in
    let q = c.out_at.ensures in
    rw (q.0, q.1) (taken_out t c.requires.0 _ _ c.requires.1)
