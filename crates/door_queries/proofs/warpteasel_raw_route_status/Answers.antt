-- Columns that are not well formed are refused; of any others the answer of the tables is said.
use mathlib.Core.Path.{refl, ap, ◌∙◌}
use borrow.Author.Tests.{not-true, not-false}
use Rattle.routing.specs.Queries.{route_status}
use Rattle.routing.specs.State.{well_formed}
use Rattle.route_table.proofs.Lent.{told}
use Rattle.door.proofs.Lent.{test_of, formed-in, ill-asked, rule-asked}
use Rattle.door_queries.specs.Questions.{status_places}
use Rattle.door_queries.proofs.warpteasel_raw_route_status.Goals as goal

pub returns-then-not-columns_formed : goal.returns-then-not-columns_formed
unfolding route_status
returns-then-not-columns_formed c = ill-asked well_formed _ _ (test_of _ _ _ (λ _. c.columns_formed.ensures) (not-true _ c.if-not-columns_formed.true-raw)) (λ _. record { status = refl; places = refl })

pub invariant_of-held : goal.invariant_of-held
invariant_of-held c = record { formed = told _ (formed-in _ _ _ _ c.columns_formed.ensures (not-false _ c.if-not-columns_formed.false-raw)).routes }

pub returns : goal.returns
unfolding route_status
returns c = rule-asked well_formed _ _ (test_of _ _ _ (λ _. c.columns_formed.ensures) (not-false _ c.if-not-columns_formed.false-raw)) (λ _. record { status = refl; places = c.status_places-y.ensures ∙ ap status_places c.route_status-x.ensures })
