-- Columns that are not well formed are refused; in any others one signal more is counted, and whether the trigger fires is said.
use mathlib.Core.Path.{refl, ap, ◌∙◌}
use borrow.Author.Tests.{not-true, not-false}
use Rattle.numbers.specs.Said.{flag_number}
use Rattle.routing.specs.Queries.{note_delivery_failure, fires_at}
use Rattle.door_triggers.proofs.Counted.{failures-left}
use Rattle.routing.specs.State.{well_formed}
use Rattle.door.proofs.Lent.{test_of, ill-made, rule-made}
use Rattle.door_triggers.proofs.warpteasel_raw_note_delivery_failure.Goals as goal

pub returns-then-not-columns_formed : goal.returns-then-not-columns_formed
unfolding note_delivery_failure
returns-then-not-columns_formed c = ill-made well_formed _ _ (test_of _ _ _ (λ _. c.columns_formed.ensures) (not-true _ c.if-not-columns_formed.true-raw)) (λ _. refl) (λ _. record { status = refl; places = refl })

pub returns : goal.returns
unfolding note_delivery_failure
returns c = rule-made well_formed _ _ (test_of _ _ _ (λ _. c.columns_formed.ensures) (not-false _ c.if-not-columns_formed.false-raw)) (λ _. failures-left _ _ _ _ _ _ _ c.saturating_add-count.ensures) (λ _. record { status = refl; places = c.flag.ensures ∙ ap (λ n. flag_number (fires_at n c.args.threshold)) c.saturating_add-count.ensures })
