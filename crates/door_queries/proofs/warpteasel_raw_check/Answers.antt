-- Columns that are not well formed are refused; of any others the answer of the tables is said.
use mathlib.Core.Path.{refl, ap, ◌∙◌}
use borrow.Author.Tests.{not-true, not-false}
use Rattle.routing.specs.Queries.{check_tables}
use Rattle.routing.specs.State.{well_formed}
use Rattle.route_table.proofs.Lent.{told}
use Rattle.discovery_table.proofs.Lent as discoveries-lent
use Rattle.door.proofs.Lent.{test_of, formed-in, ill-asked, rule-asked}
use Rattle.door_queries.specs.Questions.{check_places}
use Rattle.door_queries.proofs.warpteasel_raw_check.Goals as goal

pub returns-then-not-columns_formed : goal.returns-then-not-columns_formed
unfolding check_tables
returns-then-not-columns_formed c = ill-asked well_formed _ _ (test_of _ _ _ (λ _. c.columns_formed.ensures) (not-true _ c.if-not-columns_formed.true-raw)) (λ _. record { status = refl; places = refl })

pub invariant_of-open : goal.invariant_of-open
invariant_of-open c = record { formed = discoveries-lent.told _ (formed-in _ _ _ _ c.columns_formed.ensures (not-false _ c.if-not-columns_formed.false-raw)).discoveries }

pub invariant_of-held : goal.invariant_of-held
invariant_of-held c = record { formed = told _ (formed-in _ _ _ _ c.columns_formed.ensures (not-false _ c.if-not-columns_formed.false-raw)).routes }

pub returns : goal.returns
unfolding check_tables
returns c = rule-asked well_formed _ _ (test_of _ _ _ (λ _. c.columns_formed.ensures) (not-false _ c.if-not-columns_formed.false-raw)) (λ _. record { status = refl; places = c.check_places-y.ensures ∙ ap check_places c.check-x.ensures })
