-- A state that is not well formed is refused as it is; in any other the columns that the call leaves are put back, and they are those of its rows.
-- Assumes nothing.
use mathlib.Core.Path.{sym, ◌∙◌}
use borrow.Author.Tests.{not-true, not-false}
use Rattle.neighbors.proofs.State.{state-told, held}
use Rattle.neighbor_calls.specs.Children.{upsert_child}
use borrow.Author.Rules.{rules}
use Rattle.neighbor_calls.proofs.upsert_child.Goals as goal

pub returns-then-not-well_formed : goal.returns-then-not-well_formed
unfolding upsert_child
returns-then-not-well_formed c = rw (sym c.well_formed-2.ensures ∙ not-true _ c.if-not-well_formed.true-raw) c.refuse.ensures

pub slice_bounds-upsert_child-end-8 : goal.slice_bounds-upsert_child-end-8
slice_bounds-upsert_child-end-8 c = search (rules, c.well_formed.0.1.1.1.1.1.1)

pub slice_bounds-upsert_child-end-9 : goal.slice_bounds-upsert_child-end-9
slice_bounds-upsert_child-end-9 c = search (rules, c.well_formed.0.1.1.1.1.1.1)

pub slice_bounds-upsert_child-end-10 : goal.slice_bounds-upsert_child-end-10
slice_bounds-upsert_child-end-10 c = search (rules, c.well_formed.0.1.1.1.1.1.1)

pub upsert_child-x-requires : goal.upsert_child-x-requires
upsert_child-x-requires c = ((state-told _).fact (sym c.well_formed-2.ensures ∙ not-false _ c.if-not-well_formed.false-raw)).table

pub returns : goal.returns
unfolding upsert_child
returns c = rw (sym c.well_formed-2.ensures ∙ not-false _ c.if-not-well_formed.false-raw) (λ z. record { answer = c.upsert_child-x.ensures.0 z; state = held c.args.state _ _ c.upsert_child-x.ensures.1 z })
