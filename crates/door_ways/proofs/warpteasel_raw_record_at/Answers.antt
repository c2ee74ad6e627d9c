-- Places for relays that are not 32 are no call. Columns that are not well formed and a store that disagrees are refused; of any others the
-- record at the place is said.
use Rattle.std.specs.Prelude.{Ok}
use mathlib.Core.Path.{refl, sym, ap, ◌∙◌}
use borrow.Author.Tests.{not-true, not-false}
use Rattle.record_table.proofs.Lent as records-lent
use Rattle.relay_store.proofs.Agree.{agrees-told}
use Rattle.route_record.specs.declared.RecordRow.{RecordRow}
use Rattle.routing.specs.Records.{record_at}
use Rattle.routing.specs.State.{well_formed}
use Rattle.door.proofs.Lent.{test_of, formed-in, says-as, ill-asked, rule-asked}
use Rattle.door_ways.specs.Rows.{row_beside}
use Rattle.door_ways.proofs.warpteasel_raw_record_at.Goals as goal

pub returns-then-relays-ne32 : goal.returns-then-relays-ne32
returns-then-relays-ne32 c = record { call = λ h. absurd (c.if-relays-ne32.true h); none = λ _. record { places = refl; status = refl } }

pub returns-then-not-columns_formed : goal.returns-then-not-columns_formed
unfolding record_at
returns-then-not-columns_formed c = record { call = λ _. ill-asked well_formed _ _ (test_of _ _ _ (λ _. c.columns_formed.ensures) (not-true _ c.if-not-columns_formed.true-raw)) (λ _. record { status = refl; places = refl }); none = λ n. absurd (n c.if-relays-ne32.false) }

pub agrees-requires : goal.agrees-requires
agrees-requires c = (formed-in _ _ _ _ c.columns_formed.ensures (not-false _ c.if-not-columns_formed.false-raw)).records.ordered.long.1.0

pub returns-then-not-agrees : goal.returns-then-not-agrees
unfolding record_at
returns-then-not-agrees c = record { call = λ _. rule-asked well_formed _ _ (test_of _ _ _ (λ _. c.columns_formed.ensures) (not-false _ c.if-not-columns_formed.false-raw)) (λ _. rw (sym c.agrees.ensures ∙ not-true _ c.if-not-agrees.true-raw) (record { status = refl; places = refl })); none = λ n. absurd (n c.if-relays-ne32.false) }

pub invariant_of-kept : goal.invariant_of-kept
invariant_of-kept c = record { formed = records-lent.told _ (formed-in _ _ _ _ c.columns_formed.ensures (not-false _ c.if-not-columns_formed.false-raw)).records }

pub record_at-x-requires : goal.record_at-x-requires
record_at-x-requires c = (agrees-told _ _).fact (sym c.agrees.ensures ∙ not-false _ c.if-not-agrees.false-raw)

pub returns : goal.returns
unfolding record_at
returns c = record { call = λ _. rule-asked well_formed _ _ (test_of _ _ _ (λ _. c.columns_formed.ensures) (not-false _ c.if-not-columns_formed.false-raw)) (λ _. rw (sym c.agrees.ensures ∙ not-false _ c.if-not-agrees.false-raw) (says-as (ap (λ (x : RecordRow). row_beside (Ok x.entry) x.relays) c.record_at-x.ensures) c.say_row.ensures)); none = λ n. absurd (n c.if-relays-ne32.false) }
