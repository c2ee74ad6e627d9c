-- Columns that are not well formed are refused; in any others what the rule leaves is the call's state.
use mathlib.Core.Path.{refl}
use borrow.Author.Tests.{not-true, not-false}
use Rattle.neighbor_changes.specs.declared.Change.TheVariants as changes
use Rattle.neighbor_changes.specs.Rules.{changed_at}
use Rattle.neighbors.specs.Changes.{record_transmit_failure}
use Rattle.neighbors.proofs.Ready.{counts-ordered}
use Rattle.door_neighbors.proofs.Lent.{formed-in}
use Rattle.door_neighbor_changes.proofs.Done.{left, changed}
use Rattle.door_neighbor_changes.proofs.warpteasel_raw_record_transmit_failure.Goals as goal

pub shape_of-counts-then-not-columns_formed : goal.shape_of-counts-then-not-columns_formed
shape_of-counts-then-not-columns_formed c = refl

pub returns-then-not-columns_formed : goal.returns-then-not-columns_formed
unfolding record_transmit_failure
returns-then-not-columns_formed c = left _ c.columns_formed.ensures _ (not-true _ c.if-not-columns_formed.true-raw)

pub record_transmit_failure-requires : goal.record_transmit_failure-requires
record_transmit_failure-requires c = counts-ordered _ (formed-in _ _ _ c.columns_formed.ensures (not-false _ c.if-not-columns_formed.false-raw)).table.formed

pub shape_of-counts : goal.shape_of-counts
shape_of-counts c = c.counts-1.given

pub returns : goal.returns
unfolding record_transmit_failure
returns c = changed _ c.columns_formed.ensures _ _ (changed_at changes.Failure _) c.record_transmit_failure.ensures refl (not-false _ c.if-not-columns_formed.false-raw)
