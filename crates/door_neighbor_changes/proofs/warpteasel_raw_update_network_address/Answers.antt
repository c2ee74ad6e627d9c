-- Columns that are not well formed are refused; in any others what the rule leaves is the call's state.
use mathlib.Core.Path.{refl}
use borrow.Author.Tests.{not-true, not-false}
use Rattle.neighbor_changes.specs.declared.Change.TheVariants as changes
use Rattle.neighbor_changes.specs.Rules.{changed_at}
use Rattle.neighbors.specs.Changes.{update_network_address}
use Rattle.neighbors.proofs.Ready.{nwks-ordered}
use Rattle.door_neighbors.proofs.Lent.{formed-in}
use Rattle.door_neighbor_changes.proofs.Done.{left, changed}
use Rattle.door_neighbor_changes.proofs.warpteasel_raw_update_network_address.Goals as goal

pub shape_of-nwks-then-not-columns_formed : goal.shape_of-nwks-then-not-columns_formed
shape_of-nwks-then-not-columns_formed c = refl

pub returns-then-not-columns_formed : goal.returns-then-not-columns_formed
unfolding update_network_address
returns-then-not-columns_formed c = left _ c.columns_formed.ensures _ (not-true _ c.if-not-columns_formed.true-raw)

pub update_network_address-requires : goal.update_network_address-requires
update_network_address-requires c = nwks-ordered _ (formed-in _ _ _ c.columns_formed.ensures (not-false _ c.if-not-columns_formed.false-raw)).table.formed

pub shape_of-nwks : goal.shape_of-nwks
shape_of-nwks c = c.nwks-1.given

pub returns : goal.returns
unfolding update_network_address
returns c = changed _ c.columns_formed.ensures _ _ (changed_at (changes.Address _) _) c.update_network_address.ensures refl (not-false _ c.if-not-columns_formed.false-raw)
