-- A state that is not well formed is refused as it is; in any other the counter that stops is written, and compared.
-- Assumes nothing.
use mathlib.Core.Path.{sym, ◌∙◌}
use borrow.Author.Tests.{not-true, not-false}
use Rattle.routing.specs.Queries.{note_route_error}
use Rattle.routing.proofs.Routing.note_route_error.Goals as goal

pub returns-then-not-formed : goal.returns-then-not-formed
unfolding note_route_error
returns-then-not-formed c = rw (sym c.formed.ensures ∙ not-true _ c.if-not-formed.true-raw) c.refuse_told.ensures

pub returns : goal.returns
unfolding note_route_error
returns c = rw (sym c.formed.ensures ∙ not-false _ c.if-not-formed.false-raw, c.saturating_add-count.ensures)
