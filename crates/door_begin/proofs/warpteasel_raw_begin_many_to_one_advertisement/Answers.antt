-- Columns that are not well formed are refused; in any others what the rule leaves, with the id if it was used, is the call's state, and its answer is said.
use Prim.Native.Nat.{ℕ}
use mathlib.Core.Path.{refl}
use borrow.Author.Tests.{not-true, not-false}
use Rattle.std.proofs.Common.{rules}
use Rattle.route_table.proofs.Lent as routes-lent
use Rattle.discovery_table.proofs.Lent as discoveries-lent
use Rattle.search_tables.proofs.Lent.{given-back, holds-back}
use Rattle.standard.specs.Route.{nwk}
use Rattle.route_begin.specs.Answer.{BeginStep, advertised}
use Rattle.routing.specs.Search.{begin_many_to_one_advertisement}
use Rattle.routing.specs.declared.Routing.{Routing}
use Rattle.routing.specs.State.{rows_in, well_formed}
use Rattle.door.specs.Lent.{Counters, lent_with, the_id}
use Rattle.door.proofs.Lent.{test_of, formed-of, formed-in, says-as, ill-made, rule-made}
use Rattle.door_begin.proofs.Begun.{advertised-keeps, answer-as, state-as}
use Rattle.door_begin.proofs.warpteasel_raw_begin_many_to_one_advertisement.Goals as goal

pub returns-then-not-columns_formed : goal.returns-then-not-columns_formed
unfolding begin_many_to_one_advertisement
returns-then-not-columns_formed c = ill-made well_formed _ _ (test_of _ _ _ (λ _. c.columns_formed.ensures) (not-true _ c.if-not-columns_formed.true-raw)) (λ _. refl) (λ _. record { status = refl; places = refl })

pub invariant_of-held : goal.invariant_of-held
invariant_of-held c = record { formed = routes-lent.told _ (formed-in _ _ _ _ c.columns_formed.ensures (not-false _ c.if-not-columns_formed.false-raw)).routes }

pub invariant_of-open : goal.invariant_of-open
invariant_of-open c = record { formed = discoveries-lent.told _ (formed-in _ _ _ _ c.columns_formed.ensures (not-false _ c.if-not-columns_formed.false-raw)).discoveries }

pub returns : goal.returns
unfolding begin_many_to_one_advertisement
returns c =
    let a = c.args in
    let s : Counters → Routing = lent_with (the_id a.request_sequence_number.now) a.route_keys.now a.route_words.now a.route_usage.now a.routes.now a.discovery_keys.now a.discovery_words.now a.discovery_ends.now a.discoveries.now a.record_keys.now a.record_lengths.now a.records in
    let step : ℕ → BeginStep = λ (id : ℕ). advertised (rows_in (s (record { errors = 0; failures = 0; id = 0 }))) (nwk a.own) id a.now_ms a.route_discovery_time in
    let x = c.advertise-answer in
    let now = holds-back _ _ (given-back x.new.routes x.new.discoveries _ _ _ _ _ _ (search rules) (search rules) (search rules) (search rules) (search rules) (search rules)) _ x.ensures.left.left in
    rule-made well_formed _ _ (test_of s _ _ (λ _. c.columns_formed.ensures) (not-false _ c.if-not-columns_formed.false-raw))
    (λ k. state-as (s k) step c.next_id-id.result c.next_id-id.ensures _ x.ensures.left.said (formed-of (s k) _ c.columns_formed.ensures (not-false _ c.if-not-columns_formed.false-raw)) (advertised-keeps (rows_in (s k)) (nwk a.own) c.next_id-id.result a.now_ms a.route_discovery_time) now c.say_begun.ensures.last)
    (λ k. says-as (answer-as (s k) step c.next_id-id.result c.next_id-id.ensures _ x.ensures.left.said) c.say_begun.ensures.said)
