-- The three tests are the definition's, in its order.
-- Assumes nothing.
use mathlib.Core.Bool.{not}
use mathlib.Core.Path.{sym, ap, ◌∙◌}
use borrow.Author.Tests.{not-true, not-false}
use Rattle.route_calls.proofs.is_faulty.Goals as goal

pub returns-then-lacks_hop : goal.returns-then-lacks_hop
returns-then-lacks_hop c = simp (sym c.lacks_hop.ensures ∙ c.if-lacks_hop.true)

pub returns-then-not-is_underway : goal.returns-then-not-is_underway
returns-then-not-is_underway c =
    simp (sym c.lacks_hop.ensures ∙ c.if-lacks_hop.false, sym c.is_underway.ensures ∙ not-true _ c.if-not-is_underway.true-raw)

pub returns : goal.returns
returns c =
    simp (sym c.lacks_hop.ensures ∙ c.if-lacks_hop.false, sym c.is_underway.ensures ∙ not-false _ c.if-not-is_underway.false-raw)
    (ap not c.names.ensures)
