-- Numbers that are no values of their fields are no call. Columns that are not well formed, a store that disagrees and lists too long are refused; of any
-- others the columns that a decision reads are lent to it.
use mathlib.Core.Path.{refl, sym, ◌∙◌}
use borrow.Author.Tests.{not-true, not-false}
use Rattle.standard.specs.Route.{nwk}
use Rattle.standard.proofs.Tells.{denied}
use Rattle.route_table.proofs.Lent as routes-lent
use Rattle.record_table.proofs.Lent as records-lent
use Rattle.neighbor_columns.specs.Table as neighbours
use Rattle.door_decision.specs.Decision.{ResolvePlaces, resolve_at, Resolvable}
use Rattle.door_decision.proofs.Resolved.{resolvable, routes-formed, near-formed, together, host-short, ill-answered, apart-answered, long-answered, rule-answered}
use Rattle.door_decision.proofs.warpteasel_raw_resolve.Goals as goal
use Rattle.door_decision.proofs.warpteasel_raw_resolve.Goals.{Start, Else-not-is_call}

abbrev places : Start → ResolvePlaces
places s =
    let a = s.args in
    resolve_at a.discover_route.now a.source_route.now a.has_source_route.now a.relay_index.now a.relay_count.now a.relays.now a.decision.now a.next_hop.now

values : (c : Else-not-is_call) → Resolvable c.args.is_concentrator c.args.force_route_discovery c.args.mode (resolve_at c.args.discover_route.now c.args.source_route.now c.args.has_source_route.now c.args.relay_index.now c.args.relay_count.now c.args.relays.now c.args.decision.now c.args.next_hop.now)
values c =
    (resolvable c.args.is_concentrator c.args.force_route_discovery c.args.mode (resolve_at c.args.discover_route.now c.args.source_route.now c.args.has_source_route.now c.args.relay_index.now c.args.relay_count.now c.args.relays.now c.args.decision.now c.args.next_hop.now) c.is_call.ensures).fact (not-false _ c.if-not-is_call.false-raw)

pub returns-then-not-is_call : goal.returns-then-not-is_call
returns-then-not-is_call c =
    let a = c.args in
    record { call = λ v. absurd (denied (resolvable a.is_concentrator a.force_route_discovery a.mode (places (goal.at.returns-then-not-is_call c).Start) c.is_call.ensures) (not-true _ c.if-not-is_call.true-raw) v); none = λ _. record { places = refl; status = refl } }

pub returns-then-not-routes_fine-neighbors_fine : goal.returns-then-not-routes_fine-neighbors_fine
returns-then-not-routes_fine-neighbors_fine c =
    let a = c.args in
    ill-answered _ _ _ _ c.columns_formed-routes_fine.ensures _ _ _ c.columns_formed-neighbors_fine.ensures a.store.now a.is_concentrator a.force_route_discovery a.max_source_route a.mode (nwk a.host_hop) a.host_relays.now (nwk a.destination) (places (goal.at.returns-then-not-routes_fine-neighbors_fine c).Start) (values (goal.at.returns-then-not-routes_fine-neighbors_fine c).Else-not-is_call) (not-true _ c.if-not-routes_fine-neighbors_fine.true-raw)

pub agrees-requires : goal.agrees-requires
agrees-requires c = (routes-formed _ _ _ _ c.columns_formed-routes_fine.ensures _ _ _ c.columns_formed-neighbors_fine.ensures (not-false _ c.if-not-routes_fine-neighbors_fine.false-raw)).records.ordered.long.1.0

pub returns-then-not-agrees : goal.returns-then-not-agrees
returns-then-not-agrees c =
    let a = c.args in
    apart-answered _ _ _ _ c.columns_formed-routes_fine.ensures _ _ _ c.columns_formed-neighbors_fine.ensures a.store.now a.is_concentrator a.force_route_discovery a.max_source_route a.mode (nwk a.host_hop) a.host_relays.now (nwk a.destination) (places (goal.at.returns-then-not-agrees c).Start) (values (goal.at.returns-then-not-agrees c).Else-not-is_call) (not-false _ c.if-not-routes_fine-neighbors_fine.false-raw) (sym c.agrees.ensures ∙ not-true _ c.if-not-agrees.true-raw)

pub returns-then-long-has : goal.returns-then-long-has
returns-then-long-has c =
    let a = c.args in
    long-answered _ _ _ _ c.columns_formed-routes_fine.ensures _ _ _ c.columns_formed-neighbors_fine.ensures a.store.now a.is_concentrator a.force_route_discovery a.max_source_route a.mode (nwk a.host_hop) a.host_relays.now (nwk a.destination) (places (goal.at.returns-then-long-has c).Start) (values (goal.at.returns-then-long-has c).Else-not-is_call) (not-false _ c.if-not-routes_fine-neighbors_fine.false-raw) (sym c.agrees.ensures ∙ not-false _ c.if-not-agrees.false-raw) c.if-long-has.true

pub invariant_of-held : goal.invariant_of-held
invariant_of-held c = record { formed = routes-lent.told _ (routes-formed _ _ _ _ c.columns_formed-routes_fine.ensures _ _ _ c.columns_formed-neighbors_fine.ensures (not-false _ c.if-not-routes_fine-neighbors_fine.false-raw)).routes }

pub invariant_of-kept : goal.invariant_of-kept
invariant_of-kept c = record { formed = records-lent.told _ (routes-formed _ _ _ _ c.columns_formed-routes_fine.ensures _ _ _ c.columns_formed-neighbors_fine.ensures (not-false _ c.if-not-routes_fine-neighbors_fine.false-raw)).records }

pub decide-requires : goal.decide-requires
decide-requires c =
    let a = c.args in
    ((together _ _ _ _ c.columns_formed-routes_fine.ensures _ _ _ c.columns_formed-neighbors_fine.ensures (not-false _ c.if-not-routes_fine-neighbors_fine.false-raw) a.store.now (sym c.agrees.ensures ∙ not-false _ c.if-not-agrees.false-raw)).agrees, record { table = (neighbours.in_columns a.keys.now a.nwks.now a.links.now a.counts.now a.deadlines.now a.periods.now a.heard.now a.added.now a.beacons.now a.bytes.now a.count); formed = (near-formed _ _ _ _ c.columns_formed-routes_fine.ensures _ _ _ c.columns_formed-neighbors_fine.ensures (not-false _ c.if-not-routes_fine-neighbors_fine.false-raw)).table.formed }, rw c.kind.ensures (host-short _ _ _ _ c.columns_formed-routes_fine.ensures _ _ _ c.columns_formed-neighbors_fine.ensures a.store.now a.is_concentrator a.force_route_discovery a.max_source_route a.mode (nwk a.host_hop) a.host_relays.now (nwk a.destination) (places (goal.at.decide-requires c).Start) (values (goal.at.decide-requires c).Else-not-is_call) c.if-long-has.false), (values (goal.at.decide-requires c).Else-not-is_call).rest.header)

pub returns : goal.returns
returns c =
    let a = c.args in
    rule-answered _ _ _ _ c.columns_formed-routes_fine.ensures _ _ _ c.columns_formed-neighbors_fine.ensures a.store.now a.is_concentrator a.force_route_discovery a.max_source_route a.mode (nwk a.host_hop) a.host_relays.now (nwk a.destination) (places (goal.at.returns c).Start) (values (goal.at.returns c).Else-not-is_call) (not-false _ c.if-not-routes_fine-neighbors_fine.false-raw) (sym c.agrees.ensures ∙ not-false _ c.if-not-agrees.false-raw) c.if-long-has.false _ _ (rw c.kind.ensures at (c.decide.ensures (neighbours.in_columns a.keys.now a.nwks.now a.links.now a.counts.now a.deadlines.now a.periods.now a.heard.now a.added.now a.beacons.now a.bytes.now a.count) (near-formed _ _ _ _ c.columns_formed-routes_fine.ensures _ _ _ c.columns_formed-neighbors_fine.ensures (not-false _ c.if-not-routes_fine-neighbors_fine.false-raw)).table.formed))
