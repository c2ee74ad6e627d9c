-- Places that are not 64 are no call. Columns that are not well formed are refused; in any others what the rule leaves is the call's state, and the
-- answer is said.
use mathlib.Core.Bool.{false}
use mathlib.Core.Path.{refl}
use borrow.Author.Tests.{not-true, not-false}
use Rattle.parent_annce.specs.Rules.{settled_by}
use Rattle.neighbors.specs.State.{rows}
use Rattle.neighbor_calls.specs.Announcements.{remove_claimed_children}
use Rattle.door.proofs.Lent.{says-as}
use Rattle.door_neighbors.proofs.Lent.{formed-in}
use Rattle.neighbor_queries.specs.Answers.{with_list}
use Rattle.door_lists.specs.Lists.{given}
use Rattle.door_lists.proofs.Made.{no_room, left, made, same-long}
use Rattle.door_removals.proofs.warpteasel_raw_remove_claimed_children.Goals as goal

pub returns-then-eui64s-ne64 : goal.returns-then-eui64s-ne64
returns-then-eui64s-ne64 c = no_room _ _ _ (λ h. c.if-eui64s-ne64.true h.0)

pub returns-then-addresses-ne64 : goal.returns-then-addresses-ne64
returns-then-addresses-ne64 c = no_room _ _ _ (λ h. c.if-addresses-ne64.true h.1)

pub shape_of-keys-then-not-columns_formed : goal.shape_of-keys-then-not-columns_formed
shape_of-keys-then-not-columns_formed c = refl

pub shape_of-nwks-then-not-columns_formed : goal.shape_of-nwks-then-not-columns_formed
shape_of-nwks-then-not-columns_formed c = refl

pub shape_of-links-then-not-columns_formed : goal.shape_of-links-then-not-columns_formed
shape_of-links-then-not-columns_formed c = refl

pub shape_of-counts-then-not-columns_formed : goal.shape_of-counts-then-not-columns_formed
shape_of-counts-then-not-columns_formed c = refl

pub shape_of-deadlines-then-not-columns_formed : goal.shape_of-deadlines-then-not-columns_formed
shape_of-deadlines-then-not-columns_formed c = refl

pub shape_of-periods-then-not-columns_formed : goal.shape_of-periods-then-not-columns_formed
shape_of-periods-then-not-columns_formed c = refl

pub shape_of-heard-then-not-columns_formed : goal.shape_of-heard-then-not-columns_formed
shape_of-heard-then-not-columns_formed c = refl

pub shape_of-added-then-not-columns_formed : goal.shape_of-added-then-not-columns_formed
shape_of-added-then-not-columns_formed c = refl

pub shape_of-beacons-then-not-columns_formed : goal.shape_of-beacons-then-not-columns_formed
shape_of-beacons-then-not-columns_formed c = refl

pub shape_of-bytes-then-not-columns_formed : goal.shape_of-bytes-then-not-columns_formed
shape_of-bytes-then-not-columns_formed c = refl

pub returns-then-not-columns_formed : goal.returns-then-not-columns_formed
unfolding remove_claimed_children
returns-then-not-columns_formed c = left _ _ _ c.columns_formed.ensures _ (c.if-eui64s-ne64.false, c.if-addresses-ne64.false) (not-true _ c.if-not-columns_formed.true-raw) (λ _. refl) (record { status = refl; places = refl })

pub remove_claimed_children-x-requires : goal.remove_claimed_children-x-requires
remove_claimed_children-x-requires c = (formed-in _ _ _ c.columns_formed.ensures (not-false _ c.if-not-columns_formed.false-raw)).table

pub say_children-requires : goal.say_children-requires
say_children-requires c = (c.if-eui64s-ne64.false, c.if-addresses-ne64.false)

pub shape_of-keys : goal.shape_of-keys
shape_of-keys c = (same-long _ _ _ _ c.columns_formed.ensures (not-false _ c.if-not-columns_formed.false-raw) c.remove_claimed_children-x.ensures.2.formed).keys

pub shape_of-nwks : goal.shape_of-nwks
shape_of-nwks c = (same-long _ _ _ _ c.columns_formed.ensures (not-false _ c.if-not-columns_formed.false-raw) c.remove_claimed_children-x.ensures.2.formed).nwks

pub shape_of-links : goal.shape_of-links
shape_of-links c = (same-long _ _ _ _ c.columns_formed.ensures (not-false _ c.if-not-columns_formed.false-raw) c.remove_claimed_children-x.ensures.2.formed).links

pub shape_of-counts : goal.shape_of-counts
shape_of-counts c = (same-long _ _ _ _ c.columns_formed.ensures (not-false _ c.if-not-columns_formed.false-raw) c.remove_claimed_children-x.ensures.2.formed).counts

pub shape_of-deadlines : goal.shape_of-deadlines
shape_of-deadlines c = (same-long _ _ _ _ c.columns_formed.ensures (not-false _ c.if-not-columns_formed.false-raw) c.remove_claimed_children-x.ensures.2.formed).deadlines

pub shape_of-periods : goal.shape_of-periods
shape_of-periods c = (same-long _ _ _ _ c.columns_formed.ensures (not-false _ c.if-not-columns_formed.false-raw) c.remove_claimed_children-x.ensures.2.formed).periods

pub shape_of-heard : goal.shape_of-heard
shape_of-heard c = (same-long _ _ _ _ c.columns_formed.ensures (not-false _ c.if-not-columns_formed.false-raw) c.remove_claimed_children-x.ensures.2.formed).heard

pub shape_of-added : goal.shape_of-added
shape_of-added c = (same-long _ _ _ _ c.columns_formed.ensures (not-false _ c.if-not-columns_formed.false-raw) c.remove_claimed_children-x.ensures.2.formed).added

pub shape_of-beacons : goal.shape_of-beacons
shape_of-beacons c = (same-long _ _ _ _ c.columns_formed.ensures (not-false _ c.if-not-columns_formed.false-raw) c.remove_claimed_children-x.ensures.2.formed).beacons

pub shape_of-bytes : goal.shape_of-bytes
shape_of-bytes c = (same-long _ _ _ _ c.columns_formed.ensures (not-false _ c.if-not-columns_formed.false-raw) c.remove_claimed_children-x.ensures.2.formed).bytes

pub returns : goal.returns
unfolding remove_claimed_children
returns c =
    let x = rw c.names_given-list.ensures at c.remove_claimed_children-x.ensures in
    made _ _ _ c.columns_formed.ensures _ (c.if-eui64s-ne64.false, c.if-addresses-ne64.false) (λ s. (settled_by false (given c.args.claims.now) (rows s)).rows) (λ _. refl) (not-false _ c.if-not-columns_formed.false-raw) _ x.2 _ _
    (says-as (λ z. with_list (x.0 z) (x.1 z)) c.say_children.ensures)
