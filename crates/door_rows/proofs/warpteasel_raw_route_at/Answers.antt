-- Columns that are not well formed are refused; of any others the row at the place is said.
use mathlib.Core.Path.{refl, ap, ◌∙◌}
use borrow.Author.Tests.{not-true, not-false}
use Rattle.routing.specs.Queries.{route_at}
use Rattle.routing.specs.State.{well_formed}
use Rattle.route_table.proofs.Lent.{told}
use Rattle.door.proofs.Lent.{test_of, formed-in, ill-asked, rule-asked}
use Rattle.door_rows.specs.Rows.{route_places}
use Rattle.door_rows.proofs.warpteasel_raw_route_at.Goals as goal

pub returns-then-not-columns_formed : goal.returns-then-not-columns_formed
unfolding route_at
returns-then-not-columns_formed c = ill-asked well_formed _ _ (test_of _ _ _ (λ _. c.columns_formed.ensures) (not-true _ c.if-not-columns_formed.true-raw)) (λ _. record { status = refl; places = refl })

pub invariant_of-held : goal.invariant_of-held
invariant_of-held c = record { formed = told _ (formed-in _ _ _ _ c.columns_formed.ensures (not-false _ c.if-not-columns_formed.false-raw)).routes }

pub returns : goal.returns
unfolding route_at
returns c = rule-asked well_formed _ _ (test_of _ _ _ (λ _. c.columns_formed.ensures) (not-false _ c.if-not-columns_formed.false-raw)) (λ _. record { status = refl; places = c.route_places-y.ensures ∙ ap route_places c.at-x.ensures })
