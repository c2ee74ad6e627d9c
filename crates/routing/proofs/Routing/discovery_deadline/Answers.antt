-- A state that is not well formed is refused; of any other the answer is the table's.
-- Assumes nothing.
use mathlib.Core.Path.{sym, ap, ◌∙◌}
use borrow.Author.Tests.{not-true, not-false}
use Rattle.discovery_table.specs.Table as discoveries
use Rattle.routing.specs.Queries.{discovery_deadline}
use Rattle.routing.proofs.State.{state-told}
use Rattle.routing.proofs.Routing.discovery_deadline.Goals as goal

pub returns-then-not-formed : goal.returns-then-not-formed
unfolding discovery_deadline
returns-then-not-formed c = rw (sym c.formed.ensures ∙ not-true _ c.if-not-formed.true-raw)

pub discoveries_seen-requires : goal.discoveries_seen-requires
discoveries_seen-requires c = (state-told _).fact (sym c.formed.ensures ∙ not-false _ c.if-not-formed.false-raw)

pub returns : goal.returns
unfolding discovery_deadline
returns c = rw (sym c.formed.ensures ∙ not-false _ c.if-not-formed.false-raw, c.discovery_deadline-answer.ensures, ap discoveries.rows_of c.discoveries_seen.ensures)
