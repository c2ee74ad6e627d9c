-- A state that is not well formed is refused; of any other the answer is that of its columns.
-- Assumes nothing.
use mathlib.Core.Path.{sym, ◌∙◌}
use borrow.Author.Tests.{not-true, not-false}
use Rattle.neighbors.specs.Queries.{entry_at}
use Rattle.neighbors.proofs.State.{state-told}
use Rattle.neighbors.proofs.Neighbors.entry_at.Goals as goal

pub returns-then-not-well_formed : goal.returns-then-not-well_formed
unfolding entry_at
returns-then-not-well_formed c = rw (sym c.well_formed-2.ensures ∙ not-true _ c.if-not-well_formed.true-raw)

pub at-requires : goal.at-requires
at-requires c = ((state-told _).fact (sym c.well_formed-2.ensures ∙ not-false _ c.if-not-well_formed.false-raw)).table.formed

pub returns : goal.returns
unfolding entry_at
returns c = rw ((sym c.well_formed-2.ensures ∙ not-false _ c.if-not-well_formed.false-raw), c.at.ensures)
