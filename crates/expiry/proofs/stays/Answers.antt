-- The three questions are the definition's, in its order: a discovery that is left and names the destination is one that is live and names it.
-- Assumes nothing.
use mathlib.Core.Path.{sym, ◌∙◌}
use borrow.Author.Tests.{not-true, not-false}
use Rattle.discovery_table.specs.Lent.{seen_discoveries}
use Rattle.expiry.proofs.Left.{idle-stays, unnamed-stays, awaited-stays}
use Rattle.expiry.proofs.stays.Goals as goal

pub returns-then-not-is_underway : goal.returns-then-not-is_underway
returns-then-not-is_underway c =
    let a = c.args in
    sym (idle-stays a.now_ms (seen_discoveries a.discoveries.now) a.e (sym c.is_underway.ensures ∙ not-true _ c.if-not-is_underway.true-raw))

pub returns-then-not-names : goal.returns-then-not-names
returns-then-not-names c =
    let a = c.args in
    sym (unnamed-stays a.now_ms (seen_discoveries a.discoveries.now) a.e (sym c.is_underway.ensures ∙ not-false _ c.if-not-is_underway.false-raw) (sym c.names.ensures ∙ not-true _ c.if-not-names.true-raw))

pub returns : goal.returns
returns c =
    let a = c.args in
    c.awaited.ensures ∙ sym (awaited-stays a.now_ms (seen_discoveries a.discoveries.now) a.e (sym c.is_underway.ensures ∙ not-false _ c.if-not-is_underway.false-raw) (sym c.names.ensures ∙ not-false _ c.if-not-names.false-raw))
