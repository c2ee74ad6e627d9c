-- Each choice is taken apart, as what is made of it goes. A row of the store that is read has from 1 to 32 relays, since the choice can be made.
use native.Mathlib.Omega.{arith}
use Prim.Native.Nat.{ℕ}
use native.Mathlib.Nat.{le_refl}
use mathlib.Core.List.{List}
use mathlib.Core.Path.{◌≡◌, ap, ◌∙◌}
use lib.ListN.{length, take, get_or}
use lib.Seq.{take_all}
use Rattle.relay_store.proofs.Rows.{part-row, wide_row}
use Rattle.door_records.specs.Records.{given}
use Rattle.door_decision.specs.Decision.{resolve_at, routed_places}
use Rattle.door_decision.proofs.Routed.{given-count}
use Rattle.door_decision.proofs.Said.{refused-said, hop-said, need-said, discard-said, record-said, host-said}
use Rattle.std.specs.Prelude.{Ok}
use borrow.Author.Rules.{rules}
use Rattle.hop_choice.specs.declared.Choice.TheVariants.{ByHost, ByRecord, Discard, Hop, NeedDiscovery}
use Rattle.door_decision.proofs.outcome.say_choice.Goals as goal

pub overflow_mul-start : goal.overflow_mul-start
overflow_mul-start c =
    let e : c.args.choice ≡ Ok (ByRecord c.in-Ok-ByRecord.i) = search rules in
    let fits = rw e at c.requires.2 in omega (arith, fits.0)

pub bounds-record_lengths-i : goal.bounds-record_lengths-i
bounds-record_lengths-i c =
    let e : c.args.choice ≡ Ok (ByRecord c.in-Ok-ByRecord.i) = search rules in
    let fits = rw e at c.requires.2 in omega (arith, fits.0, c.requires.0)

pub overflow_cast-known : goal.overflow_cast-known
overflow_cast-known c =
    let e : c.args.choice ≡ Ok (ByRecord c.in-Ok-ByRecord.i) = search rules in
    let fits = rw e at c.requires.2 in omega (arith, fits.2)

pub overflow_add-start : goal.overflow_add-start
overflow_add-start c =
    let e : c.args.choice ≡ Ok (ByRecord c.in-Ok-ByRecord.i) = search rules in
    let fits = rw e at c.requires.2 in omega (arith, fits.0, c.requires.1)

pub offset_bounds-store-start : goal.offset_bounds-store-start
offset_bounds-store-start c =
    let e : c.args.choice ≡ Ok (ByRecord c.in-Ok-ByRecord.i) = search rules in
    let fits = rw e at c.requires.2 in omega (arith, fits.0, c.requires.1)

pub slice_bounds-set_route-end : goal.slice_bounds-set_route-end
slice_bounds-set_route-end c =
    let e : c.args.choice ≡ Ok (ByRecord c.in-Ok-ByRecord.i) = search rules in
    let fits = rw e at c.requires.2 in omega (arith, fits.0, c.requires.1)

pub set_route-requires : goal.set_route-requires
set_route-requires c =
    let e : c.args.choice ≡ Ok (ByRecord c.in-Ok-ByRecord.i) = search rules in
    let a = c.args in
    let i = c.in-Ok-ByRecord.i in
    let fits = rw e at c.requires.2 in
    (fits.1, fits.2, omega (arith, fits.2, ap length (part-row i a.store.now), wide_row 64 i a.store.now (omega (arith, c.requires.1)) fits.0), c.requires.3.places)

pub set_route-requires-in-Ok-ByHost : goal.set_route-requires-in-Ok-ByHost
set_route-requires-in-Ok-ByHost c =
    let e : c.args.choice ≡ Ok ByHost = search rules in
    let a = c.args in
    let fits = rw e at c.requires.2 in
    let many = given-count a.host_relays.now in
    (omega (arith, fits.0, many), omega (arith, fits.1, many), le_refl _, c.requires.3.places)

pub returns-in-Err : goal.returns-in-Err
returns-in-Err c = let a = c.args in refused-said a.record_lengths.now a.store.now a.host_relays.now (resolve_at a.discover_route.now a.source_route.now a.has_source_route.now a.relay_index.now a.relay_count.now a.relays.now a.decision.now a.next_hop.now) c.requires.3 a.choice _ c.in-Err.is _ c.number.ensures

pub returns-in-Ok-Hop : goal.returns-in-Ok-Hop
returns-in-Ok-Hop c =
    let e : c.args.choice ≡ Ok (Hop c.in-Ok-Hop.n) = search rules in
    let a = c.args in hop-said a.record_lengths.now a.store.now a.host_relays.now (resolve_at a.discover_route.now a.source_route.now a.has_source_route.now a.relay_index.now a.relay_count.now a.relays.now a.decision.now a.next_hop.now) c.requires.3 a.choice _ e

pub returns-in-Ok-ByRecord : goal.returns-in-Ok-ByRecord
returns-in-Ok-ByRecord c =
    let e : c.args.choice ≡ Ok (ByRecord c.in-Ok-ByRecord.i) = search rules in
    let a = c.args in
    let i = c.in-Ok-ByRecord.i in
    record-said a.record_lengths.now a.store.now a.host_relays.now (resolve_at a.discover_route.now a.source_route.now a.has_source_route.now a.relay_index.now a.relay_count.now a.relays.now a.decision.now a.next_hop.now) c.requires.3 a.choice i e _ (c.set_route.ensures ∙ ap (λ (row : List ℕ). routed_places (given (take (get_or a.record_lengths.now i 0) row))) (part-row i a.store.now))

pub returns-in-Ok-ByHost : goal.returns-in-Ok-ByHost
returns-in-Ok-ByHost c =
    let e : c.args.choice ≡ Ok ByHost = search rules in
    let a = c.args in
    host-said a.record_lengths.now a.store.now a.host_relays.now (resolve_at a.discover_route.now a.source_route.now a.has_source_route.now a.relay_index.now a.relay_count.now a.relays.now a.decision.now a.next_hop.now) c.requires.3 a.choice e _ (c.set_route-in-Ok-ByHost.ensures ∙ ap (λ (xs : List ℕ). routed_places (given xs)) (take_all (length a.host_relays.now) a.host_relays.now (le_refl _)))

pub returns-in-Ok-NeedDiscovery : goal.returns-in-Ok-NeedDiscovery
returns-in-Ok-NeedDiscovery c =
    let e : c.args.choice ≡ Ok NeedDiscovery = search rules in
    let a = c.args in need-said a.record_lengths.now a.store.now a.host_relays.now (resolve_at a.discover_route.now a.source_route.now a.has_source_route.now a.relay_index.now a.relay_count.now a.relays.now a.decision.now a.next_hop.now) c.requires.3 a.choice e

pub returns-in-Ok-Discard : goal.returns-in-Ok-Discard
returns-in-Ok-Discard c =
    let e : c.args.choice ≡ Ok Discard = search rules in
    let a = c.args in discard-said a.record_lengths.now a.store.now a.host_relays.now (resolve_at a.discover_route.now a.source_route.now a.has_source_route.now a.relay_index.now a.relay_count.now a.relays.now a.decision.now a.next_hop.now) c.requires.3 a.choice e
