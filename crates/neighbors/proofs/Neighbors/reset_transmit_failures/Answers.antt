-- A state that is not well formed is refused as it is; in any other the columns that the call leaves are put back, and they are those of its rows.
-- Assumes nothing.
use Rattle.std.specs.Prelude.{Ok}
use mathlib.Core.Path.{sym, ◌∙◌}
use borrow.Author.Tests.{not-true, not-false}
use Rattle.neighbors.specs.Changes.{reset_transmit_failures}
use Rattle.neighbors.specs.State.{table_in}
use Rattle.neighbors.proofs.Ready.{counts-long}
use Rattle.neighbors.proofs.State.{state-told, held}
use Rattle.neighbors.proofs.Neighbors.reset_transmit_failures.Goals as goal

pub returns-then-not-well_formed : goal.returns-then-not-well_formed
unfolding reset_transmit_failures
returns-then-not-well_formed c = rw (sym c.well_formed-2.ensures ∙ not-true _ c.if-not-well_formed.true-raw) c.refuse.ensures

pub reset_transmit_failures-requires : goal.reset_transmit_failures-requires
reset_transmit_failures-requires c = counts-long _ ((state-told _).fact (sym c.well_formed-2.ensures ∙ not-false _ c.if-not-well_formed.false-raw)).table.formed

pub returns : goal.returns
unfolding reset_transmit_failures
returns c = rw (sym c.well_formed-2.ensures ∙ not-false _ c.if-not-well_formed.false-raw) (λ z. record { answer = Ok tt; state = held c.args.self _ _ (c.reset_transmit_failures.ensures (table_in c.args.self) ((state-told _).fact (sym c.well_formed-2.ensures ∙ not-false _ c.if-not-well_formed.false-raw)).table) z })
