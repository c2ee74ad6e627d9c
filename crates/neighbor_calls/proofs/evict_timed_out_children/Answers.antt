-- A state that is not well formed is refused as it is; in any other the columns that the call leaves are put back, and they are those of its rows.
-- Assumes nothing.
use Rattle.std.specs.Prelude.{Ok}
use mathlib.Core.Path.{sym, ◌∙◌}
use borrow.Author.Tests.{not-true, not-false}
use Rattle.neighbors.proofs.State.{state-told, held}
use Rattle.neighbor_calls.specs.Children.{evict_timed_out_children}
use Rattle.neighbor_calls.proofs.evict_timed_out_children.Goals as goal

pub returns-then-not-well_formed : goal.returns-then-not-well_formed
unfolding evict_timed_out_children
returns-then-not-well_formed c = rw (sym c.well_formed-2.ensures ∙ not-true _ c.if-not-well_formed.true-raw) c.refused_removal.ensures

pub evict_timed_out_children-x-requires : goal.evict_timed_out_children-x-requires
evict_timed_out_children-x-requires c = ((state-told _).fact (sym c.well_formed-2.ensures ∙ not-false _ c.if-not-well_formed.false-raw)).table

pub returns : goal.returns
unfolding evict_timed_out_children
returns c = rw (sym c.well_formed-2.ensures ∙ not-false _ c.if-not-well_formed.false-raw) (λ z. record { answer = Ok tt; removed = c.evict_timed_out_children-x.ensures.0 z; state = held c.args.state _ _ c.evict_timed_out_children-x.ensures.1 z })
