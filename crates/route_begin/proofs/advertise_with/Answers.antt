-- Room in the discoveries, as expiry would leave them, decides refusal or answer; with it, the discovery is stored in the tables that the expiry leaves.
-- Assumes nothing.
use borrow.Author.Tests.{not-true, not-false}
use Rattle.types.specs.declared.Refusal.TheVariants.{DiscoveryTableFull}
use Rattle.standard.specs.Discovery.{pair_key}
use Rattle.discovery_table.proofs.Lent as discoveries-lent
use Rattle.search_tables.specs.Packed.{tables_of}
use Rattle.search_tables.specs.Lent.{lent}
use Rattle.search_tables.proofs.Lent.{formed, unmoved, discoveries-on}
use Rattle.expiry.proofs.Asked.{asked-discovery}
use Rattle.route_begin.proofs.Rules.{leaves-refused, full-noted, discovery-place, leaves-noted}
use Rattle.route_begin.proofs.advertise_with.Goals as goal

pub returns-then-not-discovery_room : goal.returns-then-not-discovery_room
returns-then-not-discovery_room c =
    let a = c.args in
    let r = a.routes.now in
    let d = a.discoveries.now in
    let t = lent r d in
    record {
      memory = unmoved r d;
      left = leaves-refused t (formed r d) DiscoveryTableFull _ (full-noted a.now_ms t (formed r d) a.own a.id a.d c.requires (asked-discovery a.now_ms (pair_key a.own a.id) c.seen.result t.discoveries c.seen.ensures _ _ c.discovery_room.ensures (not-true _ c.if-not-discovery_room.true-raw)));
    }

pub note-requires : goal.note-requires
note-requires c =
    let a = c.args in
    let r = a.routes.now in
    let d = a.discoveries.now in
    let t = lent r d in
    (c.requires, discovery-place a.now_ms (tables_of t) (lent c.expire.new.routes c.expire.new.discoveries) c.expire.ensures.left (pair_key a.own a.id) (asked-discovery a.now_ms (pair_key a.own a.id) c.seen.result t.discoveries c.seen.ensures _ _ c.discovery_room.ensures (not-false _ c.if-not-discovery_room.false-raw)))

pub returns : goal.returns
returns c =
    let a = c.args in
    let r = a.routes.now in
    let d = a.discoveries.now in
    let t = lent r d in
    record {
      memory = record { routes = c.expire.ensures.memory.routes; discoveries = discoveries-on _ _ _ c.expire.ensures.memory.discoveries c.note.ensures.same };
      left = leaves-noted a.now_ms (tables_of t) (lent c.expire.new.routes c.expire.new.discoveries) c.expire.ensures.left a.id a.d _ (discoveries-lent.holds c.note.new.discoveries _ c.note.ensures.discoveries);
    }
