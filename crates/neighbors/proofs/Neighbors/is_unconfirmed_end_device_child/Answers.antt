-- A state that is not well formed is refused; of any other the answer is that of its columns.
-- Assumes nothing.
use mathlib.Core.Path.{sym, ◌∙◌}
use borrow.Author.Tests.{not-true, not-false}
use Rattle.neighbors.proofs.Ready.{links-ordered}
use Rattle.neighbors.specs.Queries.{is_unconfirmed_end_device_child}
use Rattle.neighbors.specs.State.{table_in}
use Rattle.neighbors.proofs.State.{state-told}
use Rattle.neighbors.proofs.Neighbors.is_unconfirmed_end_device_child.Goals as goal

pub returns-then-not-well_formed : goal.returns-then-not-well_formed
unfolding is_unconfirmed_end_device_child
returns-then-not-well_formed c = rw (sym c.well_formed-2.ensures ∙ not-true _ c.if-not-well_formed.true-raw)

pub is_unconfirmed_end_device_child-requires : goal.is_unconfirmed_end_device_child-requires
is_unconfirmed_end_device_child-requires c = links-ordered _ ((state-told _).fact (sym c.well_formed-2.ensures ∙ not-false _ c.if-not-well_formed.false-raw)).table.formed

pub returns : goal.returns
unfolding is_unconfirmed_end_device_child
returns c = rw ((sym c.well_formed-2.ensures ∙ not-false _ c.if-not-well_formed.false-raw), c.is_unconfirmed_end_device_child.ensures (table_in c.args.self) ((state-told _).fact (sym c.well_formed-2.ensures ∙ not-false _ c.if-not-well_formed.false-raw)).table.formed)
