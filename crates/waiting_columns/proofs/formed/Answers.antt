-- A wrong length or count is told; the rest is told by a test of each column.
-- Each answer that tells that the columns make a table is the computed one.
use native.Mathlib.Omega.{arith}
use Rattle.standard.proofs.Tells.{not_so}
use Rattle.waiting_columns.specs.Table.{in_columns}
use Rattle.waiting_columns.proofs.Rows.{formed-is, parts-told}
use Rattle.waiting_columns.proofs.formed.Goals as goal

pub returns-then-keys-ne64 : goal.returns-then-keys-ne64
returns-then-keys-ne64 c =
    let a = c.args in
    let t = in_columns a.keys.now a.samples.now a.count in
    formed-is t (not_so (λ w. c.if-keys-ne64.true w.ordered.long.0))

pub returns-then-samples-ne64 : goal.returns-then-samples-ne64
returns-then-samples-ne64 c =
    let a = c.args in
    let t = in_columns a.keys.now a.samples.now a.count in
    formed-is t (not_so (λ w. c.if-samples-ne64.true w.ordered.long.1.0))

pub returns-then-count-gt64 : goal.returns-then-count-gt64
returns-then-count-gt64 c =
    let a = c.args in
    let t = in_columns a.keys.now a.samples.now a.count in
    formed-is t (not_so (λ w. omega (arith, c.if-count-gt64.true, w.ordered.small)))

pub returns : goal.returns
returns c =
    let a = c.args in
    let t = in_columns a.keys.now a.samples.now a.count in
    formed-is t (parts-told t c.if-keys-ne64.false c.if-samples-ne64.false c.if-count-gt64.false c.rising-up.ensures c.zero_from-no_keys.ensures c.zero_from-no_samples.ensures c.under-small.ensures)
