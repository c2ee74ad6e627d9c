-- Columns that are not well formed are refused; any others have as many rows as their count says.
use mathlib.Core.Path.{refl, sym}
use borrow.Author.Tests.{not-true, not-false}
use Rattle.route_table.proofs.Rows.{many}
use Rattle.routing.specs.Queries.{route_count}
use Rattle.routing.specs.State.{well_formed}
use Rattle.door.proofs.Lent.{test_of, formed-in, ill-asked, rule-asked}
use Rattle.door_queries.proofs.warpteasel_raw_route_count.Goals as goal

pub returns-then-not-columns_formed : goal.returns-then-not-columns_formed
unfolding route_count
returns-then-not-columns_formed c = ill-asked well_formed _ _ (test_of _ _ _ (λ _. c.columns_formed.ensures) (not-true _ c.if-not-columns_formed.true-raw)) (λ _. record { status = refl; places = refl })

pub returns : goal.returns
unfolding route_count
returns c = rule-asked well_formed _ _ (test_of _ _ _ (λ _. c.columns_formed.ensures) (not-false _ c.if-not-columns_formed.false-raw)) (λ _. record { status = refl; places = sym (many _ (formed-in _ _ _ _ c.columns_formed.ensures (not-false _ c.if-not-columns_formed.false-raw)).routes) })
