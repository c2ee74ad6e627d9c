-- The two tests are the definition's: the status, and then the hop.
-- Assumes nothing.
use mathlib.Core.Path.{sym, ◌∙◌}
use borrow.Author.Tests.{not-true, not-false}
use Rattle.route_table.proofs.unlinked_entry.Goals as goal

pub returns-then-not-is_active : goal.returns-then-not-is_active
returns-then-not-is_active c = simp (sym c.is_active.ensures ∙ not-true _ c.if-not-is_active.true-raw)

pub returns-then-ne : goal.returns-then-ne
returns-then-ne c =
    simp (sym c.is_active.ensures ∙ not-false _ c.if-not-is_active.false-raw, not-true _ (sym c.ne.ensures ∙ c.if-ne.true))

pub returns : goal.returns
returns c =
    c.with_status.ensures ∙ simp (sym c.is_active.ensures ∙ not-false _ c.if-not-is_active.false-raw, not-false _ (sym c.ne.ensures ∙ c.if-ne.false))
