-- A list that is too long leaves everything as it is; any other is gone through.
use mathlib.Core.Bool.{true}
use mathlib.Core.Path.{refl}
use Rattle.neighbor_columns.specs.Table.{in_columns, rows_of}
use Rattle.parent_annce.proofs.Settles.{too_long, gone-through}
use Rattle.parent_annce.proofs.process_parent_annce.Goals as goal

pub returns-then-announced-gt64 : goal.returns-then-announced-gt64
returns-then-announced-gt64 c =
    let a = c.args in
    let t = in_columns a.keys.now a.nwks.now a.links.now a.counts.now a.deadlines.now a.periods.now a.heard.now a.added.now a.beacons.now a.bytes.now a.count in
    let x = too_long true a.announced (rows_of t) t _ _ c.if-announced-gt64.true (record { neighbors = record { formed = c.requires; rows = refl }; claims = c.new-claimed.ensures; removals = c.new-removed.ensures }) in
    (x.0, x.1.claims, x.1.removals, x.1.neighbors)

pub settle-s-requires : goal.settle-s-requires
settle-s-requires c =
    let a = c.args in
    let t = in_columns a.keys.now a.nwks.now a.links.now a.counts.now a.deadlines.now a.periods.now a.heard.now a.added.now a.beacons.now a.bytes.now a.count in
    (c.requires, c.if-announced-gt64.false)

pub returns : goal.returns
returns c =
    let a = c.args in
    let t = in_columns a.keys.now a.nwks.now a.links.now a.counts.now a.deadlines.now a.periods.now a.heard.now a.added.now a.beacons.now a.bytes.now a.count in
    let x = gone-through true a.announced (rows_of t) _ _ _ c.if-announced-gt64.false c.settle-s.ensures in
    (x.0, x.1.claims, x.1.removals, x.1.neighbors)
