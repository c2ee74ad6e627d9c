-- A state that is not well formed is refused as it is; in any other the columns that the call leaves are put back, and they are those of its rows.
-- Assumes nothing.
use mathlib.Core.Path.{sym, ◌∙◌}
use borrow.Author.Tests.{not-true, not-false}
use Rattle.neighbors.proofs.State.{state-told, held}
use Rattle.neighbor_calls.specs.Children.{take_child}
use Rattle.neighbor_calls.proofs.take_child.Goals as goal

pub returns-then-not-well_formed : goal.returns-then-not-well_formed
unfolding take_child
returns-then-not-well_formed c = rw (sym c.well_formed-2.ensures ∙ not-true _ c.if-not-well_formed.true-raw) c.refused_nwk.ensures

pub take_child-x-requires : goal.take_child-x-requires
take_child-x-requires c = ((state-told _).fact (sym c.well_formed-2.ensures ∙ not-false _ c.if-not-well_formed.false-raw)).table

pub returns : goal.returns
unfolding take_child
returns c = rw (sym c.well_formed-2.ensures ∙ not-false _ c.if-not-well_formed.false-raw) (λ z. record { answer = c.take_child-x.ensures.0 z; state = held c.args.state _ _ c.take_child-x.ensures.1 z })
