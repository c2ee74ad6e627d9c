-- A state that is not well formed is refused; of any other the answer is the table's.
-- Assumes nothing.
use mathlib.Core.Path.{sym, ap, ◌∙◌}
use borrow.Author.Tests.{not-true, not-false}
use Rattle.route_table.specs.Table as routes
use Rattle.discovery_table.specs.Table as discoveries
use Rattle.routing.specs.Queries.{check_tables}
use Rattle.routing.proofs.State.{state-told}
use Rattle.routing.proofs.Routing.check.Goals as goal

pub returns-then-not-formed : goal.returns-then-not-formed
unfolding check_tables
returns-then-not-formed c = rw (sym c.formed.ensures ∙ not-true _ c.if-not-formed.true-raw)

pub routes_seen-requires : goal.routes_seen-requires
routes_seen-requires c = (state-told _).fact (sym c.formed.ensures ∙ not-false _ c.if-not-formed.false-raw)

pub discoveries_seen-requires : goal.discoveries_seen-requires
discoveries_seen-requires c = (state-told _).fact (sym c.formed.ensures ∙ not-false _ c.if-not-formed.false-raw)

pub returns : goal.returns
unfolding check_tables
returns c = rw (sym c.formed.ensures ∙ not-false _ c.if-not-formed.false-raw, c.check-answer.ensures, ap routes.rows_of c.routes_seen.ensures, ap discoveries.rows_of c.discoveries_seen.ensures)
