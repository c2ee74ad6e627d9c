-- Each column but the keys takes the row's number in the place of its address, and so the row takes the other's place.
use native.Mathlib.Omega.{arith}
use mathlib.Core.Path.{sym, subst}
use lib.ListN.{length-set}
use Rattle.standard.specs.Ordered as ordered
use Rattle.neighbor_table.specs.Entry.{neighbor_key}
use Rattle.neighbor_columns.specs.Table.{NeighborTable, in_columns, rows_of, Keeps}
use Rattle.neighbor_columns.proofs.Rows.{place-within, stored-over}
use Rattle.neighbor_columns.proofs.Stored.{words-replaced}
use Rattle.neighbor_steps.proofs.set_at.Goals as goal

pub offset_bounds-nwks-i : goal.offset_bounds-nwks-i
offset_bounds-nwks-i c =
    let a = c.args in
    let t = in_columns a.keys.now a.nwks.now a.links.now a.counts.now a.deadlines.now a.periods.now a.heard.now a.added.now a.beacons.now a.bytes.now a.count in
    omega (arith, place-within t c.requires.0 _ _ c.requires.1, c.requires.0.ordered.small, c.requires.0.ordered.long.1.0)

pub bounds-nwks-i : goal.bounds-nwks-i
bounds-nwks-i c =
    let a = c.args in
    let t = in_columns a.keys.now a.nwks.now a.links.now a.counts.now a.deadlines.now a.periods.now a.heard.now a.added.now a.beacons.now a.bytes.now a.count in
    omega (arith, place-within t c.requires.0 _ _ c.requires.1, c.requires.0.ordered.small, c.requires.0.ordered.long.1.0)

pub offset_bounds-links-i : goal.offset_bounds-links-i
offset_bounds-links-i c =
    let a = c.args in
    let t = in_columns a.keys.now a.nwks.now a.links.now a.counts.now a.deadlines.now a.periods.now a.heard.now a.added.now a.beacons.now a.bytes.now a.count in
    omega (arith, place-within t c.requires.0 _ _ c.requires.1, c.requires.0.ordered.small, c.requires.0.ordered.long.1.1.0)

pub bounds-links-i : goal.bounds-links-i
bounds-links-i c =
    let a = c.args in
    let t = in_columns a.keys.now a.nwks.now a.links.now a.counts.now a.deadlines.now a.periods.now a.heard.now a.added.now a.beacons.now a.bytes.now a.count in
    omega (arith, place-within t c.requires.0 _ _ c.requires.1, c.requires.0.ordered.small, c.requires.0.ordered.long.1.1.0)

pub offset_bounds-counts-i : goal.offset_bounds-counts-i
offset_bounds-counts-i c =
    let a = c.args in
    let t = in_columns a.keys.now a.nwks.now a.links.now a.counts.now a.deadlines.now a.periods.now a.heard.now a.added.now a.beacons.now a.bytes.now a.count in
    omega (arith, place-within t c.requires.0 _ _ c.requires.1, c.requires.0.ordered.small, c.requires.0.ordered.long.1.1.1.0)

pub bounds-counts-i : goal.bounds-counts-i
bounds-counts-i c =
    let a = c.args in
    let t = in_columns a.keys.now a.nwks.now a.links.now a.counts.now a.deadlines.now a.periods.now a.heard.now a.added.now a.beacons.now a.bytes.now a.count in
    omega (arith, place-within t c.requires.0 _ _ c.requires.1, c.requires.0.ordered.small, c.requires.0.ordered.long.1.1.1.0)

pub offset_bounds-deadlines-i : goal.offset_bounds-deadlines-i
offset_bounds-deadlines-i c =
    let a = c.args in
    let t = in_columns a.keys.now a.nwks.now a.links.now a.counts.now a.deadlines.now a.periods.now a.heard.now a.added.now a.beacons.now a.bytes.now a.count in
    omega (arith, place-within t c.requires.0 _ _ c.requires.1, c.requires.0.ordered.small, c.requires.0.ordered.long.1.1.1.1.0)

pub bounds-deadlines-i : goal.bounds-deadlines-i
bounds-deadlines-i c =
    let a = c.args in
    let t = in_columns a.keys.now a.nwks.now a.links.now a.counts.now a.deadlines.now a.periods.now a.heard.now a.added.now a.beacons.now a.bytes.now a.count in
    omega (arith, place-within t c.requires.0 _ _ c.requires.1, c.requires.0.ordered.small, c.requires.0.ordered.long.1.1.1.1.0)

pub offset_bounds-periods-i : goal.offset_bounds-periods-i
offset_bounds-periods-i c =
    let a = c.args in
    let t = in_columns a.keys.now a.nwks.now a.links.now a.counts.now a.deadlines.now a.periods.now a.heard.now a.added.now a.beacons.now a.bytes.now a.count in
    omega (arith, place-within t c.requires.0 _ _ c.requires.1, c.requires.0.ordered.small, c.requires.0.ordered.long.1.1.1.1.1.0)

pub bounds-periods-i : goal.bounds-periods-i
bounds-periods-i c =
    let a = c.args in
    let t = in_columns a.keys.now a.nwks.now a.links.now a.counts.now a.deadlines.now a.periods.now a.heard.now a.added.now a.beacons.now a.bytes.now a.count in
    omega (arith, place-within t c.requires.0 _ _ c.requires.1, c.requires.0.ordered.small, c.requires.0.ordered.long.1.1.1.1.1.0)

pub offset_bounds-heard-i : goal.offset_bounds-heard-i
offset_bounds-heard-i c =
    let a = c.args in
    let t = in_columns a.keys.now a.nwks.now a.links.now a.counts.now a.deadlines.now a.periods.now a.heard.now a.added.now a.beacons.now a.bytes.now a.count in
    omega (arith, place-within t c.requires.0 _ _ c.requires.1, c.requires.0.ordered.small, c.requires.0.ordered.long.1.1.1.1.1.1.0)

pub bounds-heard-i : goal.bounds-heard-i
bounds-heard-i c =
    let a = c.args in
    let t = in_columns a.keys.now a.nwks.now a.links.now a.counts.now a.deadlines.now a.periods.now a.heard.now a.added.now a.beacons.now a.bytes.now a.count in
    omega (arith, place-within t c.requires.0 _ _ c.requires.1, c.requires.0.ordered.small, c.requires.0.ordered.long.1.1.1.1.1.1.0)

pub offset_bounds-added-i : goal.offset_bounds-added-i
offset_bounds-added-i c =
    let a = c.args in
    let t = in_columns a.keys.now a.nwks.now a.links.now a.counts.now a.deadlines.now a.periods.now a.heard.now a.added.now a.beacons.now a.bytes.now a.count in
    omega (arith, place-within t c.requires.0 _ _ c.requires.1, c.requires.0.ordered.small, c.requires.0.ordered.long.1.1.1.1.1.1.1.0)

pub bounds-added-i : goal.bounds-added-i
bounds-added-i c =
    let a = c.args in
    let t = in_columns a.keys.now a.nwks.now a.links.now a.counts.now a.deadlines.now a.periods.now a.heard.now a.added.now a.beacons.now a.bytes.now a.count in
    omega (arith, place-within t c.requires.0 _ _ c.requires.1, c.requires.0.ordered.small, c.requires.0.ordered.long.1.1.1.1.1.1.1.0)

pub offset_bounds-beacons-i : goal.offset_bounds-beacons-i
offset_bounds-beacons-i c =
    let a = c.args in
    let t = in_columns a.keys.now a.nwks.now a.links.now a.counts.now a.deadlines.now a.periods.now a.heard.now a.added.now a.beacons.now a.bytes.now a.count in
    omega (arith, place-within t c.requires.0 _ _ c.requires.1, c.requires.0.ordered.small, c.requires.0.ordered.long.1.1.1.1.1.1.1.1.0)

pub bounds-beacons-i : goal.bounds-beacons-i
bounds-beacons-i c =
    let a = c.args in
    let t = in_columns a.keys.now a.nwks.now a.links.now a.counts.now a.deadlines.now a.periods.now a.heard.now a.added.now a.beacons.now a.bytes.now a.count in
    omega (arith, place-within t c.requires.0 _ _ c.requires.1, c.requires.0.ordered.small, c.requires.0.ordered.long.1.1.1.1.1.1.1.1.0)

pub offset_bounds-bytes-i : goal.offset_bounds-bytes-i
offset_bounds-bytes-i c =
    let a = c.args in
    let t = in_columns a.keys.now a.nwks.now a.links.now a.counts.now a.deadlines.now a.periods.now a.heard.now a.added.now a.beacons.now a.bytes.now a.count in
    omega (arith, place-within t c.requires.0 _ _ c.requires.1, c.requires.0.ordered.small, c.requires.0.ordered.long.1.1.1.1.1.1.1.1.1.0)

pub bounds-bytes-i : goal.bounds-bytes-i
bounds-bytes-i c =
    let a = c.args in
    let t = in_columns a.keys.now a.nwks.now a.links.now a.counts.now a.deadlines.now a.periods.now a.heard.now a.added.now a.beacons.now a.bytes.now a.count in
    omega (arith, place-within t c.requires.0 _ _ c.requires.1, c.requires.0.ordered.small, c.requires.0.ordered.long.1.1.1.1.1.1.1.1.1.0)

pub shape_of-nwks : goal.shape_of-nwks
shape_of-nwks c = length-set c.args.nwks.now _ _

pub shape_of-links : goal.shape_of-links
shape_of-links c = length-set c.args.links.now _ _

pub shape_of-counts : goal.shape_of-counts
shape_of-counts c = length-set c.args.counts.now _ _

pub shape_of-deadlines : goal.shape_of-deadlines
shape_of-deadlines c = length-set c.args.deadlines.now _ _

pub shape_of-periods : goal.shape_of-periods
shape_of-periods c = length-set c.args.periods.now _ _

pub shape_of-heard : goal.shape_of-heard
shape_of-heard c = length-set c.args.heard.now _ _

pub shape_of-added : goal.shape_of-added
shape_of-added c = length-set c.args.added.now _ _

pub shape_of-beacons : goal.shape_of-beacons
shape_of-beacons c = length-set c.args.beacons.now _ _

pub shape_of-bytes : goal.shape_of-bytes
shape_of-bytes c = length-set c.args.bytes.now _ _

pub returns : goal.returns
returns c =
    let a = c.args in
    let t = in_columns a.keys.now a.nwks.now a.links.now a.counts.now a.deadlines.now a.periods.now a.heard.now a.added.now a.beacons.now a.bytes.now a.count in
    subst (λ (x : NeighborTable). Keeps x (ordered.put neighbor_key a.e (rows_of t)))
    (sym (words-replaced t a.i a.e _ c.words_of-w.ensures.0))
    (stored-over t c.requires.0 a.e c.words_of-w.ensures.1 a.i c.requires.1)
