-- What is no command is no call. Columns that are not well formed are refused; in any others what the rule leaves is the call's state, and its answer is said.
use mathlib.Core.Path.{refl}
use borrow.Author.Tests.{not-true, not-false}
use Rattle.standard.proofs.Tells.{denied}
use Rattle.neighbors.specs.State.{well_formed}
use Rattle.neighbor_calls.specs.LinkStatus.{on_link_status}
use Rattle.door.proofs.Lent.{ill-made}
use Rattle.door_neighbors.proofs.Lent.{test_of, formed-in}
use Rattle.door_link_status.proofs.Left.{left}
use Rattle.door_link_status.proofs.warpteasel_raw_on_link_status.Goals as goal

pub returns-then-not-is_command : goal.returns-then-not-is_command
returns-then-not-is_command c = record { call = λ h. absurd (denied c.is_command.ensures (not-true _ c.if-not-is_command.true-raw) h); none = λ _. record { state = λ _. refl; places = refl; status = refl } }

pub shape_of-keys-then-not-columns_formed : goal.shape_of-keys-then-not-columns_formed
shape_of-keys-then-not-columns_formed c = refl

pub shape_of-nwks-then-not-columns_formed : goal.shape_of-nwks-then-not-columns_formed
shape_of-nwks-then-not-columns_formed c = refl

pub shape_of-links-then-not-columns_formed : goal.shape_of-links-then-not-columns_formed
shape_of-links-then-not-columns_formed c = refl

pub shape_of-counts-then-not-columns_formed : goal.shape_of-counts-then-not-columns_formed
shape_of-counts-then-not-columns_formed c = refl

pub shape_of-deadlines-then-not-columns_formed : goal.shape_of-deadlines-then-not-columns_formed
shape_of-deadlines-then-not-columns_formed c = refl

pub shape_of-periods-then-not-columns_formed : goal.shape_of-periods-then-not-columns_formed
shape_of-periods-then-not-columns_formed c = refl

pub shape_of-heard-then-not-columns_formed : goal.shape_of-heard-then-not-columns_formed
shape_of-heard-then-not-columns_formed c = refl

pub shape_of-added-then-not-columns_formed : goal.shape_of-added-then-not-columns_formed
shape_of-added-then-not-columns_formed c = refl

pub shape_of-beacons-then-not-columns_formed : goal.shape_of-beacons-then-not-columns_formed
shape_of-beacons-then-not-columns_formed c = refl

pub shape_of-bytes-then-not-columns_formed : goal.shape_of-bytes-then-not-columns_formed
shape_of-bytes-then-not-columns_formed c = refl

pub shape_of-senders-then-not-columns_formed : goal.shape_of-senders-then-not-columns_formed
shape_of-senders-then-not-columns_formed c = refl

pub shape_of-samples-then-not-columns_formed : goal.shape_of-samples-then-not-columns_formed
shape_of-samples-then-not-columns_formed c = refl

pub returns-then-not-columns_formed : goal.returns-then-not-columns_formed
unfolding on_link_status
returns-then-not-columns_formed c = record { call = λ _. ill-made well_formed _ _ (test_of _ _ _ c.columns_formed.ensures (not-true _ c.if-not-columns_formed.true-raw)) (λ _. refl) (λ _. record { status = refl; places = refl }); none = λ h. absurd (h (c.is_command.ensures.fact (not-false _ c.if-not-is_command.false-raw))) }

pub command_given-command-requires : goal.command_given-command-requires
command_given-command-requires c = (c.is_command.ensures.fact (not-false _ c.if-not-is_command.false-raw))

pub on_link_status-x-requires : goal.on_link_status-x-requires
on_link_status-x-requires c =
    let w = formed-in _ _ _ c.columns_formed.ensures (not-false _ c.if-not-columns_formed.false-raw) in
    (w.table, w.pending)

pub shape_of-keys : goal.shape_of-keys
shape_of-keys c = c.keys-1.given

pub shape_of-nwks : goal.shape_of-nwks
shape_of-nwks c = c.nwks-1.given

pub shape_of-links : goal.shape_of-links
shape_of-links c = c.links-1.given

pub shape_of-counts : goal.shape_of-counts
shape_of-counts c = c.counts-1.given

pub shape_of-deadlines : goal.shape_of-deadlines
shape_of-deadlines c = c.deadlines-1.given

pub shape_of-periods : goal.shape_of-periods
shape_of-periods c = c.periods-1.given

pub shape_of-heard : goal.shape_of-heard
shape_of-heard c = c.heard-1.given

pub shape_of-added : goal.shape_of-added
shape_of-added c = c.added-1.given

pub shape_of-beacons : goal.shape_of-beacons
shape_of-beacons c = c.beacons-1.given

pub shape_of-bytes : goal.shape_of-bytes
shape_of-bytes c = c.bytes-1.given

pub shape_of-senders : goal.shape_of-senders
shape_of-senders c = c.senders-1.given

pub shape_of-samples : goal.shape_of-samples
shape_of-samples c = c.samples-1.given

pub returns : goal.returns
returns c = record { call = λ _. left _ c.columns_formed.ensures (not-false _ c.if-not-columns_formed.false-raw) _ _ _ _ _ _ _ _ _ _ _ _ _ c.command_given-command.ensures c.on_link_status-x.ensures c.say_address.ensures; none = λ h. absurd (h (c.is_command.ensures.fact (not-false _ c.if-not-is_command.false-raw))) }
