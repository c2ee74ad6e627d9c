-- Each choice is taken apart, as the definition goes. A row of the store that is read has from 1 to 32 relays, since the choice can be made.
-- Assumes nothing.
use native.Mathlib.Omega.{arith}
use mathlib.Core.Path.{◌≡◌, ap, ◌∙◌}
use Rattle.next_hop.specs.Decision.{by_source_route}
use Rattle.next_hop.proofs.Makeable.{row_fits}
use Rattle.std.specs.Prelude.{Ok}
use borrow.Author.Rules.{rules}
use Rattle.hop_choice.specs.declared.Choice.TheVariants.{ByHost, ByRecord, Discard, Hop, NeedDiscovery}
use Rattle.next_hop.proofs.outcome.make.Goals as goal

pub bounds-record_lengths-i : goal.bounds-record_lengths-i
bounds-record_lengths-i c =
    let e : c.args.choice ≡ Ok (ByRecord c.in-Ok-ByRecord.i) = search rules in
    let fits = rw e at c.requires.2 in
    omega (arith, fits.0, c.requires.0)

pub overflow_cast-record_lengths : goal.overflow_cast-record_lengths
overflow_cast-record_lengths c =
    let e : c.args.choice ≡ Ok (ByRecord c.in-Ok-ByRecord.i) = search rules in
    let fits = rw e at c.requires.2 in
    omega (arith, fits.2)

pub relays_at-known-requires : goal.relays_at-known-requires
relays_at-known-requires c =
    let e : c.args.choice ≡ Ok (ByRecord c.in-Ok-ByRecord.i) = search rules in
    let fits = rw e at c.requires.2 in
    (fits.2, fits.0, c.requires.1)

pub by_source_route-requires : goal.by_source_route-requires
by_source_route-requires c =
    let e : c.args.choice ≡ Ok (ByRecord c.in-Ok-ByRecord.i) = search rules in
    let fits = rw e at c.requires.2 in
    rw c.relays_at-known.ensures (row_fits c.args.record_lengths.now c.args.store.now _ c.requires.1 fits)

pub by_source_route-requires-in-Ok-ByHost : goal.by_source_route-requires-in-Ok-ByHost
by_source_route-requires-in-Ok-ByHost c =
    let e : c.args.choice ≡ Ok ByHost = search rules in
    rw e at c.requires.2

pub returns-in-Err : goal.returns-in-Err
returns-in-Err c = rw c.in-Err.is c.refuse.ensures

pub returns-in-Ok-Hop : goal.returns-in-Ok-Hop
returns-in-Ok-Hop c =
    let e : c.args.choice ≡ Ok (Hop c.in-Ok-Hop.next) = search rules in
    rw e c.hop.ensures

pub returns-in-Ok-ByRecord : goal.returns-in-Ok-ByRecord
returns-in-Ok-ByRecord c =
    let e : c.args.choice ≡ Ok (ByRecord c.in-Ok-ByRecord.i) = search rules in
    rw e (c.by_source_route.ensures ∙ ap (by_source_route c.args.header) c.relays_at-known.ensures)

pub returns-in-Ok-ByHost : goal.returns-in-Ok-ByHost
returns-in-Ok-ByHost c =
    let e : c.args.choice ≡ Ok ByHost = search rules in
    rw e c.by_source_route-in-Ok-ByHost.ensures

pub returns-in-Ok-NeedDiscovery : goal.returns-in-Ok-NeedDiscovery
returns-in-Ok-NeedDiscovery c =
    let e : c.args.choice ≡ Ok NeedDiscovery = search rules in
    rw e

pub returns-in-Ok-Discard : goal.returns-in-Ok-Discard
returns-in-Ok-Discard c =
    let e : c.args.choice ≡ Ok Discard = search rules in
    rw e
