-- A state that is not well formed is refused as it is; in any other the columns that the call leaves are put back, and they are those of its rows.
-- Assumes nothing.
use Rattle.std.specs.Prelude.{Ok}
use mathlib.Core.Path.{sym, ◌∙◌}
use borrow.Author.Tests.{not-true, not-false}
use Rattle.neighbors.specs.Changes.{record_transmit_failure}
use Rattle.neighbors.specs.State.{table_in}
use Rattle.neighbors.proofs.Ready.{counts-ordered}
use Rattle.neighbors.proofs.State.{state-told, held}
use Rattle.neighbors.proofs.Neighbors.record_transmit_failure.Goals as goal

pub returns-then-not-well_formed : goal.returns-then-not-well_formed
unfolding record_transmit_failure
returns-then-not-well_formed c = rw (sym c.well_formed-2.ensures ∙ not-true _ c.if-not-well_formed.true-raw) c.refuse.ensures

pub record_transmit_failure-requires : goal.record_transmit_failure-requires
record_transmit_failure-requires c = counts-ordered _ ((state-told _).fact (sym c.well_formed-2.ensures ∙ not-false _ c.if-not-well_formed.false-raw)).table.formed

pub returns : goal.returns
unfolding record_transmit_failure
returns c = rw (sym c.well_formed-2.ensures ∙ not-false _ c.if-not-well_formed.false-raw) (λ z. record { answer = Ok tt; state = held c.args.self _ _ (c.record_transmit_failure.ensures (table_in c.args.self) ((state-told _).fact (sym c.well_formed-2.ensures ∙ not-false _ c.if-not-well_formed.false-raw)).table) z })
