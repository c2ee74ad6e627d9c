-- Columns that are not well formed are refused; of any others the answer of the tables is said.
use mathlib.Core.Path.{refl, ap, ◌∙◌}
use borrow.Author.Tests.{not-true, not-false}
use Rattle.routing.specs.Queries.{discovery_deadline}
use Rattle.routing.specs.State.{well_formed}
use Rattle.discovery_table.proofs.Lent.{told}
use Rattle.door.proofs.Lent.{test_of, formed-in, ill-asked, rule-asked}
use Rattle.door_queries.specs.Questions.{deadline_places}
use Rattle.door_queries.proofs.warpteasel_raw_discovery_deadline.Goals as goal

pub returns-then-not-columns_formed : goal.returns-then-not-columns_formed
unfolding discovery_deadline
returns-then-not-columns_formed c = ill-asked well_formed _ _ (test_of _ _ _ (λ _. c.columns_formed.ensures) (not-true _ c.if-not-columns_formed.true-raw)) (λ _. record { status = refl; places = refl })

pub invariant_of-open : goal.invariant_of-open
invariant_of-open c = record { formed = told _ (formed-in _ _ _ _ c.columns_formed.ensures (not-false _ c.if-not-columns_formed.false-raw)).discoveries }

pub returns : goal.returns
unfolding discovery_deadline
returns c = rule-asked well_formed _ _ (test_of _ _ _ (λ _. c.columns_formed.ensures) (not-false _ c.if-not-columns_formed.false-raw)) (λ _. record { status = refl; places = c.deadline_places-y.ensures ∙ ap deadline_places c.discovery_deadline-x.ensures })
