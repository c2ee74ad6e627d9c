-- Columns that are not well formed and a store that disagrees are refused; in any others what the rule leaves is the call's state and store, and
-- whether there was a record is said.
use mathlib.Core.Path.{refl, sym, ap, ◌∙◌}
use borrow.Author.Tests.{not-true, not-false}
use Rattle.numbers.specs.Said.{flag_number}
use Rattle.std.proofs.Common.{rules}
use Rattle.record_table.proofs.Lent.{told, given-back}
use Rattle.relay_store.proofs.Agree.{agrees-told}
use Rattle.route_record.proofs.Kept.{held-as}
use Rattle.route_record.specs.Answer.{removed_step}
use Rattle.routing.specs.Records.{remove_route_record, store_after_removal}
use Rattle.door.proofs.Lent.{test_of, formed-in, records-left, store-left, ill-stored, rule-stored}
use Rattle.door_records.proofs.removal.warpteasel_raw_remove_route_record.Goals as goal

pub returns-then-not-columns_formed : goal.returns-then-not-columns_formed
unfolding remove_route_record store_after_removal
returns-then-not-columns_formed c = ill-stored _ _ _ _ (test_of _ _ _ (λ _. c.columns_formed.ensures) (not-true _ c.if-not-columns_formed.true-raw)) (λ _. refl) (λ _. refl) (λ _. record { status = refl; places = refl })

pub agrees-requires : goal.agrees-requires
agrees-requires c = (formed-in _ _ _ _ c.columns_formed.ensures (not-false _ c.if-not-columns_formed.false-raw)).records.ordered.long.1.0

pub returns-then-not-agrees : goal.returns-then-not-agrees
unfolding remove_route_record store_after_removal
returns-then-not-agrees c = rule-stored _ _ _ _ (test_of _ _ _ (λ _. c.columns_formed.ensures) (not-false _ c.if-not-columns_formed.false-raw)) (λ _. rw (sym c.agrees.ensures ∙ not-true _ c.if-not-agrees.true-raw)) (λ _. rw (sym c.agrees.ensures ∙ not-true _ c.if-not-agrees.true-raw)) (λ _. rw (sym c.agrees.ensures ∙ not-true _ c.if-not-agrees.true-raw) (record { status = refl; places = refl }))

pub invariant_of-held : goal.invariant_of-held
invariant_of-held c = record { formed = told _ (formed-in _ _ _ _ c.columns_formed.ensures (not-false _ c.if-not-columns_formed.false-raw)).records }

pub remove_record-was_there-requires : goal.remove_record-was_there-requires
remove_record-was_there-requires c = (agrees-told _ _).fact (sym c.agrees.ensures ∙ not-false _ c.if-not-agrees.false-raw)

pub returns : goal.returns
unfolding remove_route_record store_after_removal removed_step
returns c =
    let x = c.remove_record-was_there in
    let now = held-as _ _ (given-back x.new.records _ _ (search rules) (search rules)) _ _ x.ensures.removed.holds in
    rule-stored _ _ _ _ (test_of _ _ _ (λ _. c.columns_formed.ensures) (not-false _ c.if-not-columns_formed.false-raw))
    (λ _. rw (sym c.agrees.ensures ∙ not-false _ c.if-not-agrees.false-raw) (records-left _ _ _ _ _ _ _ _ now))
    (λ _. rw (sym c.agrees.ensures ∙ not-false _ c.if-not-agrees.false-raw) (store-left _ _ _ now))
    (λ _. rw (sym c.agrees.ensures ∙ not-false _ c.if-not-agrees.false-raw) (record { status = refl; places = c.flag.ensures ∙ ap flag_number x.ensures.removed.answers }))
