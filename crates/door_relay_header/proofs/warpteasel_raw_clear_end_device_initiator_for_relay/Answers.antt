-- A flag above 1 is no call. Columns that are not well formed and a source route that is too long are refused; of any others the rule says whether the bit
-- is cleared.
use native.Mathlib.Omega.{arith}
use mathlib.Core.Path.{refl}
use borrow.Author.Tests.{not-true, not-false}
use Rattle.standard.specs.Route.{nwk}
use Rattle.neighbor_columns.specs.Table.{in_columns}
use Rattle.neighbor_queries_lent.proofs.Ready.{words-in-use}
use Rattle.door_neighbors.proofs.Lent.{formed-in}
use Rattle.door_relay_header.specs.Relayed.{clear_at}
use Rattle.door_relay_header.proofs.Cleared.{ill-answered, long-answered, rule-answered}
use Rattle.door_relay_header.proofs.warpteasel_raw_clear_end_device_initiator_for_relay.Goals as goal

pub returns-then-has_source_route-gt1 : goal.returns-then-has_source_route-gt1
returns-then-has_source_route-gt1 c = record { call = λ h _. absurd (omega (arith, c.if-has_source_route-gt1.true)); none = λ _. record { places = refl; status = refl } }

pub returns-then-end_device_initiator-gt1 : goal.returns-then-end_device_initiator-gt1
returns-then-end_device_initiator-gt1 c = record { call = λ _ h. absurd (omega (arith, c.if-end_device_initiator-gt1.true)); none = λ _. record { places = refl; status = refl } }

pub returns-then-not-columns_formed : goal.returns-then-not-columns_formed
returns-then-not-columns_formed c = let a = c.args in record { call = λ _ _. ill-answered _ _ _ c.columns_formed.ensures (nwk a.source) a.has_source_route a.relay_count (clear_at a.end_device_initiator.now a.cleared.now) (not-true _ c.if-not-columns_formed.true-raw); none = λ n. absurd (n (omega (arith, c.if-has_source_route-gt1.false), omega (arith, c.if-end_device_initiator-gt1.false))) }

pub returns-then-has_source_route-relay_count : goal.returns-then-has_source_route-relay_count
returns-then-has_source_route-relay_count c = let a = c.args in record { call = λ _ _. long-answered _ _ _ c.columns_formed.ensures (nwk a.source) a.has_source_route a.relay_count (clear_at a.end_device_initiator.now a.cleared.now) (not-false _ c.if-not-columns_formed.false-raw) c.if-has_source_route-relay_count.true; none = λ n. absurd (n (omega (arith, c.if-has_source_route-gt1.false), omega (arith, c.if-end_device_initiator-gt1.false))) }

pub clear-requires : goal.clear-requires
clear-requires c = (words-in-use _ (formed-in _ _ _ c.columns_formed.ensures (not-false _ c.if-not-columns_formed.false-raw)).table.formed, omega (arith, c.if-end_device_initiator-gt1.false))

pub returns : goal.returns
returns c = let a = c.args in record { call = λ _ _. rule-answered _ _ _ c.columns_formed.ensures (nwk a.source) a.has_source_route a.relay_count (clear_at a.end_device_initiator.now a.cleared.now) _ _ (not-false _ c.if-not-columns_formed.false-raw) c.if-has_source_route-relay_count.false (c.clear.ensures a.has_source_route a.relay_count (in_columns a.keys.now a.nwks.now a.links.now a.counts.now a.deadlines.now a.periods.now a.heard.now a.added.now a.beacons.now a.bytes.now a.count) (formed-in _ _ _ c.columns_formed.ensures (not-false _ c.if-not-columns_formed.false-raw)).table.formed); none = λ n. absurd (n (omega (arith, c.if-has_source_route-gt1.false), omega (arith, c.if-end_device_initiator-gt1.false))) }
