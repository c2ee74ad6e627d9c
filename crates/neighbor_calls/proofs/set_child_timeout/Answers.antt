-- A state that is not well formed is refused as it is; in any other the columns that the call leaves are put back, and they are those of its rows.
-- Assumes nothing.
use mathlib.Core.Path.{sym, ◌∙◌}
use borrow.Author.Tests.{not-true, not-false}
use Rattle.neighbors.proofs.Ready.{periods-long}
use Rattle.neighbors.proofs.State.{state-told, held}
use Rattle.neighbors.specs.State.{table_in}
use Rattle.neighbor_calls.specs.Children.{set_child_timeout}
use Rattle.neighbor_calls.proofs.set_child_timeout.Goals as goal

pub returns-then-not-well_formed : goal.returns-then-not-well_formed
unfolding set_child_timeout
returns-then-not-well_formed c = rw (sym c.well_formed-2.ensures ∙ not-true _ c.if-not-well_formed.true-raw) c.refused_truth.ensures

pub set_child_timeout-answer-requires : goal.set_child_timeout-answer-requires
set_child_timeout-answer-requires c = periods-long _ ((state-told _).fact (sym c.well_formed-2.ensures ∙ not-false _ c.if-not-well_formed.false-raw)).table.formed

pub returns : goal.returns
unfolding set_child_timeout
returns c = rw (sym c.well_formed-2.ensures ∙ not-false _ c.if-not-well_formed.false-raw) (λ z. record { answer = c.set_child_timeout-answer.ensures.0 (table_in c.args.state) ((state-told _).fact (sym c.well_formed-2.ensures ∙ not-false _ c.if-not-well_formed.false-raw)).table.formed z; state = held c.args.state _ _ (c.set_child_timeout-answer.ensures.1 (table_in c.args.state) ((state-told _).fact (sym c.well_formed-2.ensures ∙ not-false _ c.if-not-well_formed.false-raw)).table) z })
