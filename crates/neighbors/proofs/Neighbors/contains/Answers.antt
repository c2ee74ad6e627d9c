-- A state that is not well formed is refused; of any other the answer is that of its columns.
-- Assumes nothing.
use mathlib.Core.Path.{sym, ◌∙◌}
use borrow.Author.Tests.{not-true, not-false}
use Rattle.neighbors.proofs.Ready.{keys-ordered}
use Rattle.neighbors.specs.Queries.{contains}
use Rattle.neighbors.specs.State.{table_in}
use Rattle.neighbors.proofs.State.{state-told}
use Rattle.neighbors.proofs.Neighbors.contains.Goals as goal

pub returns-then-not-well_formed : goal.returns-then-not-well_formed
unfolding contains
returns-then-not-well_formed c = rw (sym c.well_formed-2.ensures ∙ not-true _ c.if-not-well_formed.true-raw)

pub contains-requires : goal.contains-requires
contains-requires c = keys-ordered _ ((state-told _).fact (sym c.well_formed-2.ensures ∙ not-false _ c.if-not-well_formed.false-raw)).table.formed

pub returns : goal.returns
unfolding contains
returns c = rw ((sym c.well_formed-2.ensures ∙ not-false _ c.if-not-well_formed.false-raw), c.contains.ensures (table_in c.args.self) ((state-told _).fact (sym c.well_formed-2.ensures ∙ not-false _ c.if-not-well_formed.false-raw)).table.formed)
