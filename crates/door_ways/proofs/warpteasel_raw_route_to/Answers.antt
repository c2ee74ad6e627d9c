-- Places for relays that are not 32 are no call. Columns that are not well formed and a store that disagrees are refused; of any others the
-- way that the record names, or the Active route, is said.
use mathlib.Core.Path.{refl, sym, ap, ◌∙◌}
use borrow.Author.Tests.{not-true, not-false}
use Rattle.record_table.proofs.Lent as records-lent
use Rattle.route_table.proofs.Lent as routes-lent
use Rattle.relay_store.proofs.Agree.{agrees-told}
use Rattle.route_record.specs.declared.RecordWay.{RecordWay}
use Rattle.route_table.specs.Table.{in_columns, rows_of}
use Rattle.standard.specs.Route.{nwk}
use Rattle.routing.specs.Records.{answer_in, route_to}
use Rattle.routing.specs.State.{well_formed}
use Rattle.door.proofs.Lent.{test_of, formed-in, says-as, ill-asked, rule-asked}
use Rattle.door_ways.specs.Ways.{beside}
use Rattle.door_ways.proofs.warpteasel_raw_route_to.Goals as goal

pub returns-then-relays-ne32 : goal.returns-then-relays-ne32
returns-then-relays-ne32 c = record { call = λ h. absurd (c.if-relays-ne32.true h); none = λ _. record { places = refl; status = refl } }

pub returns-then-not-columns_formed : goal.returns-then-not-columns_formed
unfolding route_to
returns-then-not-columns_formed c = record { call = λ _. ill-asked well_formed _ _ (test_of _ _ _ (λ _. c.columns_formed.ensures) (not-true _ c.if-not-columns_formed.true-raw)) (λ _. record { status = refl; places = refl }); none = λ n. absurd (n c.if-relays-ne32.false) }

pub agrees-requires : goal.agrees-requires
agrees-requires c = (formed-in _ _ _ _ c.columns_formed.ensures (not-false _ c.if-not-columns_formed.false-raw)).records.ordered.long.1.0

pub returns-then-not-agrees : goal.returns-then-not-agrees
unfolding route_to
returns-then-not-agrees c = record { call = λ _. rule-asked well_formed _ _ (test_of _ _ _ (λ _. c.columns_formed.ensures) (not-false _ c.if-not-columns_formed.false-raw)) (λ _. rw (sym c.agrees.ensures ∙ not-true _ c.if-not-agrees.true-raw) (record { status = refl; places = refl })); none = λ n. absurd (n c.if-relays-ne32.false) }

pub invariant_of-kept : goal.invariant_of-kept
invariant_of-kept c = record { formed = records-lent.told _ (formed-in _ _ _ _ c.columns_formed.ensures (not-false _ c.if-not-columns_formed.false-raw)).records }

pub way_to-x-requires : goal.way_to-x-requires
way_to-x-requires c = (agrees-told _ _).fact (sym c.agrees.ensures ∙ not-false _ c.if-not-agrees.false-raw)

pub invariant_of-held : goal.invariant_of-held
invariant_of-held c = record { formed = routes-lent.told _ (formed-in _ _ _ _ c.columns_formed.ensures (not-false _ c.if-not-columns_formed.false-raw)).routes }

pub say_way-requires : goal.say_way-requires
say_way-requires c = c.if-relays-ne32.false

pub returns : goal.returns
unfolding route_to
returns c =
    let a = c.args in
    record {
      call = λ _. rule-asked well_formed _ _ (test_of _ _ _ (λ _. c.columns_formed.ensures) (not-false _ c.if-not-columns_formed.false-raw)) (λ _. rw (sym c.agrees.ensures ∙ not-false _ c.if-not-agrees.false-raw) (says-as (ap (λ (w : RecordWay). beside (answer_in (rows_of (in_columns a.route_keys.now a.route_words.now a.route_usage.now a.routes)) (nwk a.destination) w.route) w.relays) c.way_to-x.ensures) c.say_way.ensures));
      none = λ n. absurd (n c.if-relays-ne32.false);
    }
