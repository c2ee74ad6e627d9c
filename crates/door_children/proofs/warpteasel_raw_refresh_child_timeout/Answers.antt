-- A flag above 1 is no call. Columns that are not well formed are refused; in any others what the rule leaves is the call's state, and its answer is said.
use mathlib.Core.Path.{refl}
use native.Mathlib.Omega.{arith}
use borrow.Author.Tests.{not-true, not-false}
use Rattle.neighbors.specs.State.{well_formed}
use Rattle.neighbors.proofs.Ready.{times-ordered}
use Rattle.neighbor_calls.specs.Children.{refresh_child_timeout}
use Rattle.door.proofs.Lent.{ill-made}
use Rattle.door_neighbors.proofs.Lent.{test_of, formed-in}
use Rattle.door_children.proofs.Left.{polled-left}
use Rattle.door_children.proofs.warpteasel_raw_refresh_child_timeout.Goals as goal

pub returns-then-eui64_given-gt1 : goal.returns-then-eui64_given-gt1
returns-then-eui64_given-gt1 c = record { call = λ h. absurd (omega (arith, h.0, c.if-eui64_given-gt1.true)); none = λ _. record { state = λ _. refl; places = refl; status = refl } }

pub returns-then-nwk_given-gt1 : goal.returns-then-nwk_given-gt1
returns-then-nwk_given-gt1 c = record { call = λ h. absurd (omega (arith, h.1, c.if-nwk_given-gt1.true)); none = λ _. record { state = λ _. refl; places = refl; status = refl } }

pub shape_of-links-then-not-columns_formed : goal.shape_of-links-then-not-columns_formed
shape_of-links-then-not-columns_formed c = refl

pub shape_of-deadlines-then-not-columns_formed : goal.shape_of-deadlines-then-not-columns_formed
shape_of-deadlines-then-not-columns_formed c = refl

pub returns-then-not-columns_formed : goal.returns-then-not-columns_formed
unfolding refresh_child_timeout
returns-then-not-columns_formed c = record { call = λ _. ill-made well_formed _ _ (test_of _ _ _ c.columns_formed.ensures (not-true _ c.if-not-columns_formed.true-raw)) (λ _. refl) (λ _. record { status = refl; places = refl }); none = λ h. absurd (h (omega (arith, c.if-eui64_given-gt1.false), omega (arith, c.if-nwk_given-gt1.false))) }

pub refresh_child_timeout-answer-requires : goal.refresh_child_timeout-answer-requires
refresh_child_timeout-answer-requires c = times-ordered _ (formed-in _ _ _ c.columns_formed.ensures (not-false _ c.if-not-columns_formed.false-raw)).table.formed

pub shape_of-links : goal.shape_of-links
shape_of-links c = c.links-1.given

pub shape_of-deadlines : goal.shape_of-deadlines
shape_of-deadlines c = c.deadlines-1.given

pub returns : goal.returns
returns c = record { call = λ _. polled-left _ c.columns_formed.ensures (not-false _ c.if-not-columns_formed.false-raw) _ _ _ _ _ _ _ _ _ _ _ _ c.maybe_name-name.ensures c.maybe_address-address.ensures c.refresh_child_timeout-answer.ensures refl refl c.say_truth.ensures; none = λ h. absurd (h (omega (arith, c.if-eui64_given-gt1.false), omega (arith, c.if-nwk_given-gt1.false))) }
