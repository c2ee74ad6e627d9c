-- Columns that are not well formed are refused; in any others what the rule leaves is the call's state.
use mathlib.Core.Path.{refl}
use borrow.Author.Tests.{not-true, not-false}
use Rattle.neighbor_queries.specs.declared.Filter.TheVariants.{Address}
use Rattle.neighbor_changes.specs.declared.Change.TheVariants as changes
use Rattle.neighbor_changes.specs.Rules.{changed_first}
use Rattle.neighbors.specs.Changes.{record_inbound_activity}
use Rattle.neighbors.proofs.Ready.{senders-long}
use Rattle.door_neighbors.proofs.Lent.{formed-in}
use Rattle.door_neighbor_changes.proofs.Done.{left, changed}
use Rattle.door_neighbor_changes.proofs.warpteasel_raw_record_inbound_activity.Goals as goal

pub shape_of-counts-then-not-columns_formed : goal.shape_of-counts-then-not-columns_formed
shape_of-counts-then-not-columns_formed c = refl

pub returns-then-not-columns_formed : goal.returns-then-not-columns_formed
unfolding record_inbound_activity
returns-then-not-columns_formed c = left _ c.columns_formed.ensures _ (not-true _ c.if-not-columns_formed.true-raw)

pub record_inbound_activity-requires : goal.record_inbound_activity-requires
record_inbound_activity-requires c = senders-long _ (formed-in _ _ _ c.columns_formed.ensures (not-false _ c.if-not-columns_formed.false-raw)).table.formed

pub shape_of-counts : goal.shape_of-counts
shape_of-counts c = c.counts-1.given

pub returns : goal.returns
unfolding record_inbound_activity
returns c = changed _ c.columns_formed.ensures _ _ (changed_first changes.Inbound (Address _)) c.record_inbound_activity.ensures refl (not-false _ c.if-not-columns_formed.false-raw)
