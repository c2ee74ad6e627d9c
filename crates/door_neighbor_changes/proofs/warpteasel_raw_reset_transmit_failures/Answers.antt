-- Columns that are not well formed are refused; in any others what the rule leaves is the call's state.
use mathlib.Core.Path.{refl}
use mathlib.Core.List.{map}
use borrow.Author.Tests.{not-true, not-false}
use Rattle.neighbor_changes.specs.Change.{forgiven}
use Rattle.neighbors.specs.Changes.{reset_transmit_failures}
use Rattle.neighbors.proofs.Ready.{counts-long}
use Rattle.door_neighbors.proofs.Lent.{formed-in}
use Rattle.door_neighbor_changes.proofs.Done.{left, changed}
use Rattle.door_neighbor_changes.proofs.warpteasel_raw_reset_transmit_failures.Goals as goal

pub shape_of-counts-then-not-columns_formed : goal.shape_of-counts-then-not-columns_formed
shape_of-counts-then-not-columns_formed c = refl

pub returns-then-not-columns_formed : goal.returns-then-not-columns_formed
unfolding reset_transmit_failures
returns-then-not-columns_formed c = left _ c.columns_formed.ensures _ (not-true _ c.if-not-columns_formed.true-raw)

pub reset_transmit_failures-requires : goal.reset_transmit_failures-requires
reset_transmit_failures-requires c = counts-long _ (formed-in _ _ _ c.columns_formed.ensures (not-false _ c.if-not-columns_formed.false-raw)).table.formed

pub shape_of-counts : goal.shape_of-counts
shape_of-counts c = c.counts-1.given

pub returns : goal.returns
unfolding reset_transmit_failures
returns c = changed _ c.columns_formed.ensures _ _ (map forgiven) c.reset_transmit_failures.ensures refl (not-false _ c.if-not-columns_formed.false-raw)
