-- A wrong length or count is told; the rest is told by a test of each column.
-- Each answer that tells well-formedness is the computed one.
use native.Mathlib.Omega.{arith}
use Rattle.standard.proofs.Tells.{not_so}
use Rattle.record_table.specs.Table.{in_columns}
use Rattle.record_table.proofs.Rows.{formed-is, parts-told}
use Rattle.record_table.proofs.well_formed.Goals as goal

pub returns-then-keys-ne64 : goal.returns-then-keys-ne64
returns-then-keys-ne64 c = formed-is (in_columns c.args.keys.now c.args.lengths.now c.args.count) (not_so (λ w. c.if-keys-ne64.true w.ordered.long.0))

pub returns-then-lengths-ne64 : goal.returns-then-lengths-ne64
returns-then-lengths-ne64 c = formed-is (in_columns c.args.keys.now c.args.lengths.now c.args.count) (not_so (λ w. c.if-lengths-ne64.true w.ordered.long.1.0))

pub returns-then-count-gt64 : goal.returns-then-count-gt64
returns-then-count-gt64 c = formed-is (in_columns c.args.keys.now c.args.lengths.now c.args.count) (not_so (λ w. omega (arith, c.if-count-gt64.true, w.ordered.small)))

pub returns : goal.returns
returns c = formed-is (in_columns c.args.keys.now c.args.lengths.now c.args.count) (parts-told (in_columns c.args.keys.now c.args.lengths.now c.args.count) c.if-keys-ne64.false c.if-lengths-ne64.false c.if-count-gt64.false c.rising-up.ensures c.zero_from-no_keys.ensures c.zero_from-no_lengths.ensures c.under-few.ensures)
