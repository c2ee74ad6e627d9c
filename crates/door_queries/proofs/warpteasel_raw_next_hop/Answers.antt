-- Columns that are not well formed are refused; of any others the route table's hop is the answer.
use mathlib.Core.Path.{refl}
use borrow.Author.Tests.{not-true, not-false}
use Rattle.routing.specs.Queries.{next_hop_of}
use Rattle.routing.specs.State.{well_formed}
use Rattle.route_table.proofs.Lent.{told}
use Rattle.door.proofs.Lent.{test_of, formed-in, says-as, ill-asked, rule-asked}
use Rattle.door_queries.proofs.warpteasel_raw_next_hop.Goals as goal

pub returns-then-not-columns_formed : goal.returns-then-not-columns_formed
unfolding next_hop_of
returns-then-not-columns_formed c = ill-asked well_formed _ _ (test_of _ _ _ (λ _. c.columns_formed.ensures) (not-true _ c.if-not-columns_formed.true-raw)) (λ _. record { status = refl; places = refl })

pub invariant_of-held : goal.invariant_of-held
invariant_of-held c = record { formed = told _ (formed-in _ _ _ _ c.columns_formed.ensures (not-false _ c.if-not-columns_formed.false-raw)).routes }

pub returns : goal.returns
unfolding next_hop_of
returns c = rule-asked well_formed _ _ (test_of _ _ _ (λ _. c.columns_formed.ensures) (not-false _ c.if-not-columns_formed.false-raw)) (λ _. says-as c.next_hop-hop.ensures c.say_hop.ensures)
