-- A state that is not well formed is refused as it is; in any other the columns that the call leaves are put back, and they are those of its rows.
-- Assumes nothing.
use mathlib.Core.Path.{sym, ◌∙◌}
use borrow.Author.Tests.{not-true, not-false}
use Rattle.neighbors.proofs.State.{state-told, held}
use Rattle.neighbor_calls.specs.Announcements.{process_parent_annce}
use borrow.Author.Rules.{rules}
use Rattle.neighbor_calls.proofs.process_parent_annce.Goals as goal

pub returns-then-not-well_formed : goal.returns-then-not-well_formed
unfolding process_parent_annce
returns-then-not-well_formed c = rw (sym c.well_formed-2.ensures ∙ not-true _ c.if-not-well_formed.true-raw) c.refused_announced.ensures

pub slice_bounds-process_parent_annce-end : goal.slice_bounds-process_parent_annce-end
slice_bounds-process_parent_annce-end c = search (rules, c.well_formed.0)

pub slice_bounds-process_parent_annce-end-2 : goal.slice_bounds-process_parent_annce-end-2
slice_bounds-process_parent_annce-end-2 c = search (rules, c.well_formed.0)

pub slice_bounds-process_parent_annce-end-3 : goal.slice_bounds-process_parent_annce-end-3
slice_bounds-process_parent_annce-end-3 c = search (rules, c.well_formed.0)

pub slice_bounds-process_parent_annce-end-4 : goal.slice_bounds-process_parent_annce-end-4
slice_bounds-process_parent_annce-end-4 c = search (rules, c.well_formed.0)

pub slice_bounds-process_parent_annce-end-5 : goal.slice_bounds-process_parent_annce-end-5
slice_bounds-process_parent_annce-end-5 c = search (rules, c.well_formed.0)

pub slice_bounds-process_parent_annce-end-6 : goal.slice_bounds-process_parent_annce-end-6
slice_bounds-process_parent_annce-end-6 c = search (rules, c.well_formed.0.1.1.1.1.1)

pub slice_bounds-process_parent_annce-end-7 : goal.slice_bounds-process_parent_annce-end-7
slice_bounds-process_parent_annce-end-7 c = search (rules, c.well_formed.0.1.1.1.1.1)

pub slice_bounds-process_parent_annce-end-8 : goal.slice_bounds-process_parent_annce-end-8
slice_bounds-process_parent_annce-end-8 c = search (rules, c.well_formed.0.1.1.1.1.1)

pub slice_bounds-process_parent_annce-end-9 : goal.slice_bounds-process_parent_annce-end-9
slice_bounds-process_parent_annce-end-9 c = search (rules, c.well_formed.0.1.1.1.1.1)

pub slice_bounds-process_parent_annce-end-10 : goal.slice_bounds-process_parent_annce-end-10
slice_bounds-process_parent_annce-end-10 c = search (rules, c.well_formed.0.1.1.1.1.1)

pub process_parent_annce-x-requires : goal.process_parent_annce-x-requires
process_parent_annce-x-requires c = ((state-told _).fact (sym c.well_formed-2.ensures ∙ not-false _ c.if-not-well_formed.false-raw)).table

pub returns : goal.returns
unfolding process_parent_annce
returns c = rw (sym c.well_formed-2.ensures ∙ not-false _ c.if-not-well_formed.false-raw) (λ z. record { answer = c.process_parent_annce-x.ensures.0 z; claimed = c.process_parent_annce-x.ensures.1 z; removed = c.process_parent_annce-x.ensures.2 z; state = held c.args.state _ _ c.process_parent_annce-x.ensures.3 z })
