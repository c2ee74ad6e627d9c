-- A state that is not well formed is refused; any other has as many rows as its count says.
-- Assumes nothing.
use mathlib.Core.Path.{sym, ◌∙◌}
use borrow.Author.Tests.{not-true, not-false}
use Rattle.discovery_table.proofs.Rows.{many}
use Rattle.routing.specs.Queries.{discovery_count}
use Rattle.routing.proofs.State.{state-told}
use Rattle.routing.proofs.Routing.discovery_count.Goals as goal

pub returns-then-not-formed : goal.returns-then-not-formed
unfolding discovery_count
returns-then-not-formed c = rw (sym c.formed.ensures ∙ not-true _ c.if-not-formed.true-raw)

pub returns : goal.returns
unfolding discovery_count
returns c = let formed = sym c.formed.ensures ∙ not-false _ c.if-not-formed.false-raw in rw (formed, many _ ((state-told _).fact formed).discoveries)
