-- Columns that are not well formed, a store that disagrees and a list that is too long are refused; in any others what the rule leaves is the call's
-- state and store, and its answer is said.
use mathlib.Core.Path.{refl, sym, ◌∙◌}
use borrow.Author.Tests.{not-true, not-false}
use Rattle.std.proofs.Common.{rules}
use Rattle.record_table.proofs.Lent.{told, given-back}
use Rattle.relay_store.proofs.Agree.{agrees-told}
use Rattle.route_record.proofs.Kept.{held-as}
use Rattle.routing.specs.Records.{store_route_record, store_after_record}
use Rattle.door.proofs.Lent.{test_of, formed-in, says-as, records-left, store-left, ill-stored, rule-stored}
use Rattle.door_records.proofs.Given.{given-few, given-short, given-long}
use Rattle.door_records.proofs.warpteasel_raw_store_route_record.Goals as goal

pub returns-then-not-columns_formed : goal.returns-then-not-columns_formed
unfolding store_route_record store_after_record
returns-then-not-columns_formed c = ill-stored _ _ _ _ (test_of _ _ _ (λ _. c.columns_formed.ensures) (not-true _ c.if-not-columns_formed.true-raw)) (λ _. refl) (λ _. refl) (λ _. record { status = refl; places = refl })

pub agrees-agreed-requires : goal.agrees-agreed-requires
agrees-agreed-requires c = (formed-in _ _ _ _ c.columns_formed.ensures (not-false _ c.if-not-columns_formed.false-raw)).records.ordered.long.1.0

pub returns-then-not-agreed : goal.returns-then-not-agreed
unfolding store_route_record store_after_record
returns-then-not-agreed c = rule-stored _ _ _ _ (test_of _ _ _ (λ _. c.columns_formed.ensures) (not-false _ c.if-not-columns_formed.false-raw)) (λ _. rw (sym c.agrees-agreed.ensures ∙ not-true _ c.if-not-agreed.true-raw)) (λ _. rw (sym c.agrees-agreed.ensures ∙ not-true _ c.if-not-agreed.true-raw)) (λ _. rw (sym c.agrees-agreed.ensures ∙ not-true _ c.if-not-agreed.true-raw) (record { status = refl; places = refl }))

pub returns-then-relays-gt32 : goal.returns-then-relays-gt32
unfolding store_route_record store_after_record
returns-then-relays-gt32 c = rule-stored _ _ _ _ (test_of _ _ _ (λ _. c.columns_formed.ensures) (not-false _ c.if-not-columns_formed.false-raw)) (λ _. rw ((sym c.agrees-agreed.ensures ∙ not-false _ c.if-not-agreed.false-raw), given-long _ c.if-relays-gt32.true)) (λ _. rw ((sym c.agrees-agreed.ensures ∙ not-false _ c.if-not-agreed.false-raw), given-long _ c.if-relays-gt32.true)) (λ _. rw ((sym c.agrees-agreed.ensures ∙ not-false _ c.if-not-agreed.false-raw), given-long _ c.if-relays-gt32.true) (record { status = refl; places = refl }))

pub invariant_of-held : goal.invariant_of-held
invariant_of-held c = record { formed = told _ (formed-in _ _ _ _ c.columns_formed.ensures (not-false _ c.if-not-columns_formed.false-raw)).records }

pub store_record-answer-requires : goal.store_record-answer-requires
store_record-answer-requires c = ((agrees-told _ _).fact (sym c.agrees-agreed.ensures ∙ not-false _ c.if-not-agreed.false-raw), rw c.relays_given-list.ensures (given-few c.args.relays.now c.if-relays-gt32.false))

pub returns : goal.returns
unfolding store_route_record store_after_record
returns c =
    let x = c.store_record-answer in
    let now = held-as _ _ (given-back x.new.records _ _ (search rules) (search rules)) _ _ (rw c.relays_given-list.ensures at x.ensures.stored.holds) in
    rule-stored _ _ _ _ (test_of _ _ _ (λ _. c.columns_formed.ensures) (not-false _ c.if-not-columns_formed.false-raw))
    (λ _. rw ((sym c.agrees-agreed.ensures ∙ not-false _ c.if-not-agreed.false-raw), given-short _ c.if-relays-gt32.false) (records-left _ _ _ _ _ _ _ _ now))
    (λ _. rw ((sym c.agrees-agreed.ensures ∙ not-false _ c.if-not-agreed.false-raw), given-short _ c.if-relays-gt32.false) (store-left _ _ _ now))
    (λ _. rw ((sym c.agrees-agreed.ensures ∙ not-false _ c.if-not-agreed.false-raw), given-short _ c.if-relays-gt32.false) (says-as (rw c.relays_given-list.ensures at x.ensures.stored.answers) c.say_record.ensures))
