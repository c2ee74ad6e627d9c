-- A wrong length or count is told; the rest is told together, as the computed test tells it.
-- Assumes nothing.
use native.Mathlib.Omega.{arith}
use Rattle.standard.proofs.Tells.{not_so, tells-one}
use Rattle.discovery_table.specs.Table.{in_columns}
use Rattle.discovery_table.proofs.Rows.{well-formed-told, columns-told}
use Rattle.discovery_table.proofs.well_formed.Goals as goal

pub returns-then-keys-ne32 : goal.returns-then-keys-ne32
returns-then-keys-ne32 c =
    let a = c.args in
    let told = well-formed-told (in_columns a.keys.now a.words.now a.ends.now a.count) in
    tells-one (not_so (λ w. c.if-keys-ne32.true w.ordered.long.0)) told

pub returns-then-words-ne32 : goal.returns-then-words-ne32
returns-then-words-ne32 c =
    let a = c.args in
    let told = well-formed-told (in_columns a.keys.now a.words.now a.ends.now a.count) in
    tells-one (not_so (λ w. c.if-words-ne32.true w.ordered.long.1.0)) told

pub returns-then-ends-ne32 : goal.returns-then-ends-ne32
returns-then-ends-ne32 c =
    let a = c.args in
    let told = well-formed-told (in_columns a.keys.now a.words.now a.ends.now a.count) in
    tells-one (not_so (λ w. c.if-ends-ne32.true w.ordered.long.1.1.0)) told

pub returns-then-count-gt32 : goal.returns-then-count-gt32
returns-then-count-gt32 c =
    let a = c.args in
    let told = well-formed-told (in_columns a.keys.now a.words.now a.ends.now a.count) in
    tells-one (not_so (λ w. omega (arith, c.if-count-gt32.true, w.ordered.small))) told

pub returns : goal.returns
returns c =
    let a = c.args in
    let told = well-formed-told (in_columns a.keys.now a.words.now a.ends.now a.count) in
    tells-one
    (columns-told a.keys.now a.words.now a.ends.now a.count (c.if-keys-ne32.false, (c.if-words-ne32.false, (c.if-ends-ne32.false, tt))) c.if-count-gt32.false
    c.rising-up.ensures c.zero_from-no_keys.ensures c.zero_from-no_words.ensures c.zero_from-no_ends.ensures c.under-pairs.ensures c.under-small.ensures)
    told
