-- Columns that are not well formed are refused; in any others what the rule leaves is the call's state.
use Rattle.std.proofs.Common.{rules}
use mathlib.Core.Path.{refl}
use borrow.Author.Tests.{not-true, not-false}
use Rattle.routing.specs.Routes.{mark_discovery_failed}
use Rattle.routing.specs.State.{well_formed}
use Rattle.route_table.proofs.Lent.{told, values-given-back}
use Rattle.door.proofs.Lent.{test_of, formed-in, routes-left, ill-made, rule-made}
use Rattle.door_usage.proofs.warpteasel_raw_mark_discovery_failed.Goals as goal

pub returns-then-not-columns_formed : goal.returns-then-not-columns_formed
unfolding mark_discovery_failed
returns-then-not-columns_formed c = ill-made well_formed _ _ (test_of _ _ _ (λ _. c.columns_formed.ensures) (not-true _ c.if-not-columns_formed.true-raw)) (λ _. refl) (λ _. record { status = refl; places = refl })

pub invariant_of-held : goal.invariant_of-held
invariant_of-held c = record { formed = told _ (formed-in _ _ _ _ c.columns_formed.ensures (not-false _ c.if-not-columns_formed.false-raw)).routes }

pub returns : goal.returns
unfolding mark_discovery_failed
returns c =
    let left = c.mark_discovery_failed.ensures in
    let now = values-given-back _ c.mark_discovery_failed.new.routes _ left _ _ (search rules) (search rules) in
    rule-made well_formed _ _ (test_of _ _ _ (λ _. c.columns_formed.ensures) (not-false _ c.if-not-columns_formed.false-raw)) (λ _. routes-left _ _ _ _ _ _ _ now) (λ _. record { status = refl; places = refl })
