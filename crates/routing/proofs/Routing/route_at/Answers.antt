-- A state that is not well formed is refused; of any other the answer is the table's.
-- Assumes nothing.
use mathlib.Core.Path.{sym, ap, ◌∙◌}
use borrow.Author.Tests.{not-true, not-false}
use Rattle.route_table.specs.Table as routes
use Rattle.routing.specs.Queries.{route_at}
use Rattle.routing.proofs.State.{state-told}
use Rattle.routing.proofs.Routing.route_at.Goals as goal

pub returns-then-not-formed : goal.returns-then-not-formed
unfolding route_at
returns-then-not-formed c = rw (sym c.formed.ensures ∙ not-true _ c.if-not-formed.true-raw)

pub routes_seen-requires : goal.routes_seen-requires
routes_seen-requires c = (state-told _).fact (sym c.formed.ensures ∙ not-false _ c.if-not-formed.false-raw)

pub returns : goal.returns
unfolding route_at
returns c = rw (sym c.formed.ensures ∙ not-false _ c.if-not-formed.false-raw, c.at-answer.ensures, ap routes.rows_of c.routes_seen.ensures)
