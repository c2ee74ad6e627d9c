-- An Active route's hop goes by one test, and any other route has none.
-- Assumes nothing.
use mathlib.Core.Path.{sym, ◌∙◌}
use borrow.Author.Tests.{not-true, not-false, eq-eqb, ne_eqb}
use Rattle.route_calls.proofs.hop_of.Goals as goal

pub returns-then-not-is_active : goal.returns-then-not-is_active
returns-then-not-is_active c = rw (sym c.is_active.ensures ∙ not-true _ c.if-not-is_active.true-raw)

pub returns-then-hop : goal.returns-then-hop
returns-then-hop c =
    rw (sym c.is_active.ensures ∙ not-false _ c.if-not-is_active.false-raw, eq-eqb _ _ c.if-hop.true)

pub returns : goal.returns
returns c =
    rw (sym c.is_active.ensures ∙ not-false _ c.if-not-is_active.false-raw, ne_eqb _ _ c.if-hop.false)
