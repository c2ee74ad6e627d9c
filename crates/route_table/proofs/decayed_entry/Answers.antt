-- The status decides as in the definition, and a byte less one stops at 0 as the difference of numbers does.
-- Assumes nothing.
use mathlib.Core.Path.{sym, ◌∙◌}
use borrow.Author.Tests.{not-true, not-false}
use Rattle.route_table.proofs.decayed_entry.Goals as goal

pub returns-then-not-is_active : goal.returns-then-not-is_active
returns-then-not-is_active c = simp (sym c.is_active.ensures ∙ not-true _ c.if-not-is_active.true-raw)

pub returns : goal.returns
returns c = simp (sym c.is_active.ensures ∙ not-false _ c.if-not-is_active.false-raw, c.saturating_sub.ensures)
