-- A state that is not well formed is refused as it is; in any other the columns that the call leaves are put back, and they are those of its rows.
-- Assumes nothing.
use Rattle.std.specs.Prelude.{Ok}
use mathlib.Core.Path.{sym, ◌∙◌}
use borrow.Author.Tests.{not-true, not-false}
use Rattle.neighbors.specs.Changes.{update_network_address}
use Rattle.neighbors.specs.State.{table_in}
use Rattle.neighbors.proofs.Ready.{nwks-ordered}
use Rattle.neighbors.proofs.State.{state-told, held}
use Rattle.neighbors.proofs.Neighbors.update_network_address.Goals as goal

pub returns-then-not-well_formed : goal.returns-then-not-well_formed
unfolding update_network_address
returns-then-not-well_formed c = rw (sym c.well_formed-2.ensures ∙ not-true _ c.if-not-well_formed.true-raw) c.refuse.ensures

pub update_network_address-requires : goal.update_network_address-requires
update_network_address-requires c = nwks-ordered _ ((state-told _).fact (sym c.well_formed-2.ensures ∙ not-false _ c.if-not-well_formed.false-raw)).table.formed

pub returns : goal.returns
unfolding update_network_address
returns c = rw (sym c.well_formed-2.ensures ∙ not-false _ c.if-not-well_formed.false-raw) (λ z. record { answer = Ok tt; state = held c.args.self _ _ (c.update_network_address.ensures (table_in c.args.self) ((state-told _).fact (sym c.well_formed-2.ensures ∙ not-false _ c.if-not-well_formed.false-raw)).table) z })
