-- A wrong length or count is told at once, and the rest together; so the answer is that of the computed test.
-- Assumes nothing.
use native.Mathlib.Omega.{arith}
use Rattle.standard.proofs.Tells.{not_so, tells-one}
use Rattle.route_table.specs.Table.{in_columns}
use Rattle.route_table.proofs.Rows.{well-formed-told, parts-told}
use Rattle.route_table.proofs.well_formed.Goals as goal

pub returns-then-keys-ne64 : goal.returns-then-keys-ne64
returns-then-keys-ne64 c =
    let a = c.args in
    let t = in_columns a.keys.now a.words.now a.usage.now a.count in
    tells-one (not_so (λ w. c.if-keys-ne64.true w.ordered.long.0)) (well-formed-told t)

pub returns-then-words-ne64 : goal.returns-then-words-ne64
returns-then-words-ne64 c =
    let a = c.args in
    let t = in_columns a.keys.now a.words.now a.usage.now a.count in
    tells-one (not_so (λ w. c.if-words-ne64.true w.ordered.long.1.0)) (well-formed-told t)

pub returns-then-usage-ne64 : goal.returns-then-usage-ne64
returns-then-usage-ne64 c =
    let a = c.args in
    let t = in_columns a.keys.now a.words.now a.usage.now a.count in
    tells-one (not_so (λ w. c.if-usage-ne64.true w.ordered.long.1.1.0)) (well-formed-told t)

pub returns-then-count-gt64 : goal.returns-then-count-gt64
returns-then-count-gt64 c =
    let a = c.args in
    let t = in_columns a.keys.now a.words.now a.usage.now a.count in
    tells-one (not_so (λ w. omega (arith, c.if-count-gt64.true, w.ordered.small))) (well-formed-told t)

pub returns : goal.returns
returns c =
    let a = c.args in
    let t = in_columns a.keys.now a.words.now a.usage.now a.count in
    tells-one
    (parts-told t (c.if-keys-ne64.false, (c.if-words-ne64.false, (c.if-usage-ne64.false, tt))) c.if-count-gt64.false
    c.rising-up.ensures c.zero_from-no_keys.ensures c.zero_from-no_words.ensures c.zero_from-no_usage.ensures c.under-small.ensures)
    (well-formed-told t)
