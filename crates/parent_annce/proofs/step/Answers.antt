-- Each verdict leaves what its law says.
use native.Mathlib.Omega.{arith}
use mathlib.Core.Path.{sym, ◌∙◌}
use lib.ListN.{take}
use Rattle.flat_map.specs.Seek.{place_of}
use Rattle.neighbor_columns.specs.Table.{in_columns}
use Rattle.neighbor_columns.proofs.Rows.{links-ready, in-places, place-within}
use Rattle.parent_annce.proofs.Settles.{goes-found, stays, claims, goes}
use Rattle.parent_annce.proofs.step.Goals as goal

pub decide-verdict-requires : goal.decide-verdict-requires
decide-verdict-requires c =
    let a = c.args in
    let t = in_columns a.keys.now a.nwks.now a.links.now a.counts.now a.deadlines.now a.periods.now a.heard.now a.added.now a.beacons.now a.bytes.now a.s.count in
    let w = c.requires.0 in
    links-ready t w.formed

pub claim-requires : goal.claim-requires
claim-requires c = c.requires.1

pub offset_bounds-nwks-i : goal.offset_bounds-nwks-i
offset_bounds-nwks-i c =
    let a = c.args in
    let t = in_columns a.keys.now a.nwks.now a.links.now a.counts.now a.deadlines.now a.periods.now a.heard.now a.added.now a.beacons.now a.bytes.now a.s.count in
    let w = c.requires.0 in
    omega (arith, w.formed.ordered.small, w.formed.ordered.long.1.0, place-within t w.formed a.eui64.0 _ (goes-found a.confirm a.links.now _ (place_of (take a.s.count a.keys.now) a.eui64.0) (sym c.in-Goes.is ∙ c.decide-verdict.ensures)))

pub bounds-nwks-i : goal.bounds-nwks-i
bounds-nwks-i c =
    let a = c.args in
    let t = in_columns a.keys.now a.nwks.now a.links.now a.counts.now a.deadlines.now a.periods.now a.heard.now a.added.now a.beacons.now a.bytes.now a.s.count in
    let w = c.requires.0 in
    omega (arith, w.formed.ordered.small, w.formed.ordered.long.1.0, place-within t w.formed a.eui64.0 _ (goes-found a.confirm a.links.now _ (place_of (take a.s.count a.keys.now) a.eui64.0) (sym c.in-Goes.is ∙ c.decide-verdict.ensures)))

pub remove_at-left-requires : goal.remove_at-left-requires
remove_at-left-requires c =
    let a = c.args in
    let t = in_columns a.keys.now a.nwks.now a.links.now a.counts.now a.deadlines.now a.periods.now a.heard.now a.added.now a.beacons.now a.bytes.now a.s.count in
    let w = c.requires.0 in
    (in-places t w.formed _ (place-within t w.formed a.eui64.0 _ (goes-found a.confirm a.links.now _ (place_of (take a.s.count a.keys.now) a.eui64.0) (sym c.in-Goes.is ∙ c.decide-verdict.ensures))), omega (arith, place-within t w.formed a.eui64.0 _ (goes-found a.confirm a.links.now _ (place_of (take a.s.count a.keys.now) a.eui64.0) (sym c.in-Goes.is ∙ c.decide-verdict.ensures))))

pub note-requires : goal.note-requires
note-requires c = c.requires.2

pub returns-in-Away : goal.returns-in-Away
returns-in-Away c =
    let a = c.args in
    let t = in_columns a.keys.now a.nwks.now a.links.now a.counts.now a.deadlines.now a.periods.now a.heard.now a.added.now a.beacons.now a.bytes.now a.s.count in
    let w = c.requires.0 in
    stays t w a.confirm a.eui64 a.s.claimed a.s.removed (sym c.in-Away.is ∙ c.decide-verdict.ensures)

pub returns-in-Claimed : goal.returns-in-Claimed
returns-in-Claimed c =
    let a = c.args in
    let t = in_columns a.keys.now a.nwks.now a.links.now a.counts.now a.deadlines.now a.periods.now a.heard.now a.added.now a.beacons.now a.bytes.now a.s.count in
    let w = c.requires.0 in
    claims t w a.confirm a.eui64 a.s.claimed a.s.removed (sym c.in-Claimed.is ∙ c.decide-verdict.ensures) c.requires.1 _ _ _ c.claim.ensures

pub returns-in-Goes : goal.returns-in-Goes
returns-in-Goes c =
    let a = c.args in
    let t = in_columns a.keys.now a.nwks.now a.links.now a.counts.now a.deadlines.now a.periods.now a.heard.now a.added.now a.beacons.now a.bytes.now a.s.count in
    let w = c.requires.0 in
    goes t w a.confirm a.eui64 a.s.claimed a.s.removed _ (sym c.in-Goes.is ∙ c.decide-verdict.ensures) c.requires.2 _ c.remove_at-left.ensures _ _ _ c.note.ensures
