-- A state that is not well formed is refused; of any other the answer is that of its columns.
-- Assumes nothing.
use mathlib.Core.Path.{sym, ◌∙◌}
use borrow.Author.Tests.{not-true, not-false}
use Rattle.neighbor_columns.proofs.Rows.{many}
use Rattle.neighbors.specs.Queries.{count}
use Rattle.neighbors.specs.State.{table_in}
use Rattle.neighbors.proofs.State.{state-told}
use Rattle.neighbors.proofs.Neighbors.count.Goals as goal

pub returns-then-not-well_formed : goal.returns-then-not-well_formed
unfolding count
returns-then-not-well_formed c = rw (sym c.well_formed-2.ensures ∙ not-true _ c.if-not-well_formed.true-raw)

pub returns : goal.returns
unfolding count
returns c = rw ((sym c.well_formed-2.ensures ∙ not-false _ c.if-not-well_formed.false-raw), many (table_in c.args.self) ((state-told _).fact (sym c.well_formed-2.ensures ∙ not-false _ c.if-not-well_formed.false-raw)).table.formed)
