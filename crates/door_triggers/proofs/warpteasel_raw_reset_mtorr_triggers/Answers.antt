-- Columns that are not well formed are refused; in any others both counters are zero.
use mathlib.Core.Path.{refl}
use borrow.Author.Tests.{not-true, not-false}
use Rattle.routing.specs.Queries.{reset_mtorr_triggers}
use Rattle.routing.specs.State.{well_formed}
use Rattle.door.proofs.Lent.{test_of, ill-made, rule-made}
use Rattle.door_triggers.proofs.warpteasel_raw_reset_mtorr_triggers.Goals as goal

pub returns-then-not-columns_formed : goal.returns-then-not-columns_formed
unfolding reset_mtorr_triggers
returns-then-not-columns_formed c = ill-made well_formed _ _ (test_of _ _ _ (λ _. c.columns_formed.ensures) (not-true _ c.if-not-columns_formed.true-raw)) (λ _. refl) (λ _. record { status = refl; places = refl })

pub returns : goal.returns
unfolding reset_mtorr_triggers
returns c = rule-made well_formed _ _ (test_of _ _ _ (λ _. c.columns_formed.ensures) (not-false _ c.if-not-columns_formed.false-raw)) (λ _. refl) (λ _. record { status = refl; places = refl })
