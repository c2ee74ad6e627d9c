-- Columns that are not well formed are refused; in any others what the rule leaves is the call's state, and its answer is said.
use mathlib.Core.Path.{refl}
use borrow.Author.Tests.{not-true, not-false}
use Rattle.neighbors.specs.State.{well_formed}
use Rattle.neighbors.proofs.Ready.{periods-long}
use Rattle.neighbor_calls.specs.Children.{set_child_timeout}
use Rattle.door.proofs.Lent.{ill-made}
use Rattle.door_neighbors.proofs.Lent.{test_of, formed-in}
use Rattle.door_children.proofs.Left.{retimed-left}
use Rattle.door_children.proofs.warpteasel_raw_set_child_timeout.Goals as goal

pub shape_of-links-then-not-columns_formed : goal.shape_of-links-then-not-columns_formed
shape_of-links-then-not-columns_formed c = refl

pub shape_of-counts-then-not-columns_formed : goal.shape_of-counts-then-not-columns_formed
shape_of-counts-then-not-columns_formed c = refl

pub shape_of-deadlines-then-not-columns_formed : goal.shape_of-deadlines-then-not-columns_formed
shape_of-deadlines-then-not-columns_formed c = refl

pub shape_of-periods-then-not-columns_formed : goal.shape_of-periods-then-not-columns_formed
shape_of-periods-then-not-columns_formed c = refl

pub returns-then-not-columns_formed : goal.returns-then-not-columns_formed
unfolding set_child_timeout
returns-then-not-columns_formed c = ill-made well_formed _ _ (test_of _ _ _ c.columns_formed.ensures (not-true _ c.if-not-columns_formed.true-raw)) (λ _. refl) (λ _. record { status = refl; places = refl })

pub set_child_timeout-answer-requires : goal.set_child_timeout-answer-requires
set_child_timeout-answer-requires c = periods-long _ (formed-in _ _ _ c.columns_formed.ensures (not-false _ c.if-not-columns_formed.false-raw)).table.formed

pub shape_of-links : goal.shape_of-links
shape_of-links c = c.links-1.given

pub shape_of-counts : goal.shape_of-counts
shape_of-counts c = c.counts-1.given

pub shape_of-deadlines : goal.shape_of-deadlines
shape_of-deadlines c = c.deadlines-1.given

pub shape_of-periods : goal.shape_of-periods
shape_of-periods c = c.periods-1.given

pub returns : goal.returns
returns c = retimed-left _ c.columns_formed.ensures (not-false _ c.if-not-columns_formed.false-raw) _ _ _ _ _ _ _ _ _ _ _ c.set_child_timeout-answer.ensures refl refl c.say_truth.ensures
