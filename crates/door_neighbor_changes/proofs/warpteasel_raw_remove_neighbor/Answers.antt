-- Columns that are not well formed are refused; in any others what the rule leaves is the call's state.
use mathlib.Core.Path.{refl}
use borrow.Author.Tests.{not-true, not-false}
use Rattle.neighbors.specs.Changes.{remove}
use Rattle.door_neighbors.proofs.Lent.{formed-in}
use Rattle.door_neighbor_changes.proofs.Done.{left, done}
use Rattle.door_neighbor_changes.proofs.warpteasel_raw_remove_neighbor.Goals as goal

pub shape_of-keys-then-not-columns_formed : goal.shape_of-keys-then-not-columns_formed
shape_of-keys-then-not-columns_formed c = refl

pub shape_of-nwks-then-not-columns_formed : goal.shape_of-nwks-then-not-columns_formed
shape_of-nwks-then-not-columns_formed c = refl

pub shape_of-links-then-not-columns_formed : goal.shape_of-links-then-not-columns_formed
shape_of-links-then-not-columns_formed c = refl

pub shape_of-counts-then-not-columns_formed : goal.shape_of-counts-then-not-columns_formed
shape_of-counts-then-not-columns_formed c = refl

pub shape_of-deadlines-then-not-columns_formed : goal.shape_of-deadlines-then-not-columns_formed
shape_of-deadlines-then-not-columns_formed c = refl

pub shape_of-periods-then-not-columns_formed : goal.shape_of-periods-then-not-columns_formed
shape_of-periods-then-not-columns_formed c = refl

pub shape_of-heard-then-not-columns_formed : goal.shape_of-heard-then-not-columns_formed
shape_of-heard-then-not-columns_formed c = refl

pub shape_of-added-then-not-columns_formed : goal.shape_of-added-then-not-columns_formed
shape_of-added-then-not-columns_formed c = refl

pub shape_of-beacons-then-not-columns_formed : goal.shape_of-beacons-then-not-columns_formed
shape_of-beacons-then-not-columns_formed c = refl

pub shape_of-bytes-then-not-columns_formed : goal.shape_of-bytes-then-not-columns_formed
shape_of-bytes-then-not-columns_formed c = refl

pub returns-then-not-columns_formed : goal.returns-then-not-columns_formed
unfolding remove
returns-then-not-columns_formed c = left _ c.columns_formed.ensures _ (not-true _ c.if-not-columns_formed.true-raw)

pub remove-requires : goal.remove-requires
remove-requires c = (formed-in _ _ _ c.columns_formed.ensures (not-false _ c.if-not-columns_formed.false-raw)).table

pub shape_of-keys : goal.shape_of-keys
shape_of-keys c = c.keys-1.given

pub shape_of-nwks : goal.shape_of-nwks
shape_of-nwks c = c.nwks-1.given

pub shape_of-links : goal.shape_of-links
shape_of-links c = c.links-1.given

pub shape_of-counts : goal.shape_of-counts
shape_of-counts c = c.counts-1.given

pub shape_of-deadlines : goal.shape_of-deadlines
shape_of-deadlines c = c.deadlines-1.given

pub shape_of-periods : goal.shape_of-periods
shape_of-periods c = c.periods-1.given

pub shape_of-heard : goal.shape_of-heard
shape_of-heard c = c.heard-1.given

pub shape_of-added : goal.shape_of-added
shape_of-added c = c.added-1.given

pub shape_of-beacons : goal.shape_of-beacons
shape_of-beacons c = c.beacons-1.given

pub shape_of-bytes : goal.shape_of-bytes
shape_of-bytes c = c.bytes-1.given

pub returns : goal.returns
unfolding remove
returns c =
    done _ c.columns_formed.ensures _ _ (not-false _ c.if-not-columns_formed.false-raw) c.remove.ensures
