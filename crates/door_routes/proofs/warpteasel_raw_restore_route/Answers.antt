-- Columns that are not well formed are refused; in any others what the rule leaves is the call's state, and its answer is said.
use mathlib.Core.Path.{refl, sym, ap, ◌∙◌}
use borrow.Author.Tests.{not-true, not-false}
use Rattle.routing.specs.State.{well_formed}
use Rattle.door.specs.Places.{done_status}
use Rattle.routing.specs.Routes.{restore_route}
use Rattle.route_table.proofs.Lent.{told, given-back}
use Rattle.door.proofs.Lent.{test_of, formed-in, routes-left, ill-made, rule-made}
use Rattle.door_routes.proofs.warpteasel_raw_restore_route.Goals as goal

pub returns-then-not-columns_formed : goal.returns-then-not-columns_formed
unfolding restore_route
returns-then-not-columns_formed c = ill-made well_formed _ _ (test_of _ _ _ (λ _. c.columns_formed.ensures) (not-true _ c.if-not-columns_formed.true-raw)) (λ _. refl) (λ _. record { status = refl; places = refl })

pub invariant_of-held : goal.invariant_of-held
invariant_of-held c = record { formed = told _ (formed-in _ _ _ _ c.columns_formed.ensures (not-false _ c.if-not-columns_formed.false-raw)).routes }

pub returns : goal.returns
unfolding restore_route
returns c =
    let left = c.restore_route-answer.ensures.left in
    let now = given-back c.restore_route-answer.new.routes _ _ _ (c.route_keys-1.given.1.1 (sym left.same.keys)) (c.route_words-1.given.1.1 (sym left.same.words)) (c.route_usage-1.given.1.1 (sym left.same.usage)) _ left.routes in
    rule-made well_formed _ _ (test_of _ _ _ (λ _. c.columns_formed.ensures) (not-false _ c.if-not-columns_formed.false-raw)) (λ _. routes-left _ _ _ _ _ _ _ now) (λ _. record { status = c.done_status.ensures ∙ ap done_status c.restore_route-answer.ensures.said; places = refl })
