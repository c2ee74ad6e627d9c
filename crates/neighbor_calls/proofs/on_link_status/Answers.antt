-- A state that is not well formed is refused as it is; in any other the columns that the call leaves are put back, and they are those of its rows.
-- Assumes nothing.
use mathlib.Core.Path.{sym, ◌∙◌}
use borrow.Author.Tests.{not-true, not-false}
use Rattle.neighbors.proofs.State.{state-told, columns-told, held_both}
use Rattle.neighbor_calls.specs.LinkStatus.{on_link_status}
use borrow.Author.Rules.{rules}
use Rattle.neighbor_calls.proofs.on_link_status.Goals as goal

pub slice_bounds-columns_formed-end-7 : goal.slice_bounds-columns_formed-end-7
slice_bounds-columns_formed-end-7 c = search (rules, c.well_formed.0.1.1.1.1.1.1)

pub slice_bounds-columns_formed-end-8 : goal.slice_bounds-columns_formed-end-8
slice_bounds-columns_formed-end-8 c = search (rules, c.well_formed.0.1.1.1.1.1.1)

pub slice_bounds-columns_formed-end-9 : goal.slice_bounds-columns_formed-end-9
slice_bounds-columns_formed-end-9 c = search (rules, c.well_formed.0.1.1.1.1.1.1)

pub slice_bounds-columns_formed-end-10 : goal.slice_bounds-columns_formed-end-10
slice_bounds-columns_formed-end-10 c = search (rules, c.well_formed.0.1.1.1.1.1.1)

pub slice_bounds-columns_formed-end-11 : goal.slice_bounds-columns_formed-end-11
slice_bounds-columns_formed-end-11 c = search (rules, c.well_formed.0.1.1.1.1.1.1.1.1.1.1.1)

pub slice_bounds-columns_formed-end-12 : goal.slice_bounds-columns_formed-end-12
slice_bounds-columns_formed-end-12 c = search (rules, c.well_formed.0.1.1.1.1.1.1.1.1.1.1.1)

pub returns-then-not-columns_formed : goal.returns-then-not-columns_formed
unfolding on_link_status
returns-then-not-columns_formed c = rw (sym (columns-told c.args.state c.columns_formed.ensures) ∙ not-true _ c.if-not-columns_formed.true-raw) c.refused_nwk.ensures

pub slice_bounds-on_link_status-end : goal.slice_bounds-on_link_status-end
slice_bounds-on_link_status-end c = search (rules, c.well_formed.0)

pub slice_bounds-on_link_status-end-2 : goal.slice_bounds-on_link_status-end-2
slice_bounds-on_link_status-end-2 c = search (rules, c.well_formed.0)

pub slice_bounds-on_link_status-end-3 : goal.slice_bounds-on_link_status-end-3
slice_bounds-on_link_status-end-3 c = search (rules, c.well_formed.0)

pub slice_bounds-on_link_status-end-4 : goal.slice_bounds-on_link_status-end-4
slice_bounds-on_link_status-end-4 c = search (rules, c.well_formed.0)

pub slice_bounds-on_link_status-end-5 : goal.slice_bounds-on_link_status-end-5
slice_bounds-on_link_status-end-5 c = search (rules, c.well_formed.0)

pub slice_bounds-on_link_status-end-6 : goal.slice_bounds-on_link_status-end-6
slice_bounds-on_link_status-end-6 c = search (rules, c.well_formed.0.1.1.1.1.1)

pub slice_bounds-on_link_status-end-7 : goal.slice_bounds-on_link_status-end-7
slice_bounds-on_link_status-end-7 c = search (rules, c.well_formed.0.1.1.1.1.1)

pub slice_bounds-on_link_status-end-8 : goal.slice_bounds-on_link_status-end-8
slice_bounds-on_link_status-end-8 c = search (rules, c.well_formed.0.1.1.1.1.1)

pub slice_bounds-on_link_status-end-9 : goal.slice_bounds-on_link_status-end-9
slice_bounds-on_link_status-end-9 c = search (rules, c.well_formed.0.1.1.1.1.1)

pub slice_bounds-on_link_status-end-10 : goal.slice_bounds-on_link_status-end-10
slice_bounds-on_link_status-end-10 c = search (rules, c.well_formed.0.1.1.1.1.1)

pub slice_bounds-on_link_status-end-11 : goal.slice_bounds-on_link_status-end-11
slice_bounds-on_link_status-end-11 c = search (rules, c.well_formed.0.1.1.1.1.1.1.1.1.1.1.1)

pub slice_bounds-on_link_status-end-12 : goal.slice_bounds-on_link_status-end-12
slice_bounds-on_link_status-end-12 c = search (rules, c.well_formed.0.1.1.1.1.1.1.1.1.1.1.1)

pub on_link_status-x-requires : goal.on_link_status-x-requires
on_link_status-x-requires c = (((state-told c.args.state).fact (sym (columns-told c.args.state c.columns_formed.ensures) ∙ not-false _ c.if-not-columns_formed.false-raw)).table, ((state-told c.args.state).fact (sym (columns-told c.args.state c.columns_formed.ensures) ∙ not-false _ c.if-not-columns_formed.false-raw)).pending)

pub returns : goal.returns
unfolding on_link_status
returns c = rw (sym (columns-told c.args.state c.columns_formed.ensures) ∙ not-false _ c.if-not-columns_formed.false-raw) (λ z. record { answer = c.on_link_status-x.ensures.said z; state = held_both _ _ _ _ c.on_link_status-x.ensures.neighbors c.on_link_status-x.ensures.waiting z })
