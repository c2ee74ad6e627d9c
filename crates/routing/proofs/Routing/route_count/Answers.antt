-- A state that is not well formed is refused; any other has as many rows as its count says.
-- Assumes nothing.
use mathlib.Core.Path.{sym, ◌∙◌}
use borrow.Author.Tests.{not-true, not-false}
use Rattle.route_table.proofs.Rows.{many}
use Rattle.routing.specs.Queries.{route_count}
use Rattle.routing.proofs.State.{state-told}
use Rattle.routing.proofs.Routing.route_count.Goals as goal

pub returns-then-not-formed : goal.returns-then-not-formed
unfolding route_count
returns-then-not-formed c = rw (sym c.formed.ensures ∙ not-true _ c.if-not-formed.true-raw)

pub returns : goal.returns
unfolding route_count
returns c = let formed = sym c.formed.ensures ∙ not-false _ c.if-not-formed.false-raw in rw (formed, many _ ((state-told _).fact formed).routes)
