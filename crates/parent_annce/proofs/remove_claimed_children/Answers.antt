-- A list that is too long leaves everything as it is; any other is gone through.
use mathlib.Core.Bool.{false}
use mathlib.Core.List.{[]}
use mathlib.Core.Path.{refl}
use Rattle.neighbor_columns.specs.Table.{in_columns, rows_of}
use Rattle.neighbor_queries.specs.Lists.{eui_list}
use Rattle.parent_annce.proofs.Settles.{too_long, gone-through}
use Rattle.parent_annce.proofs.remove_claimed_children.Goals as goal

pub returns-then-claimed-gt64 : goal.returns-then-claimed-gt64
returns-then-claimed-gt64 c =
    let a = c.args in
    let t = in_columns a.keys.now a.nwks.now a.links.now a.counts.now a.deadlines.now a.periods.now a.heard.now a.added.now a.beacons.now a.bytes.now a.count in
    let x = too_long false a.claimed (rows_of t) t (eui_list []) _ c.if-claimed-gt64.true (record { neighbors = record { formed = c.requires; rows = refl }; claims = refl; removals = c.new-removed.ensures }) in
    (x.0, x.1.removals, x.1.neighbors)

pub settle-s-requires : goal.settle-s-requires
settle-s-requires c =
    let a = c.args in
    let t = in_columns a.keys.now a.nwks.now a.links.now a.counts.now a.deadlines.now a.periods.now a.heard.now a.added.now a.beacons.now a.bytes.now a.count in
    (c.requires, c.if-claimed-gt64.false)

pub returns : goal.returns
returns c =
    let a = c.args in
    let t = in_columns a.keys.now a.nwks.now a.links.now a.counts.now a.deadlines.now a.periods.now a.heard.now a.added.now a.beacons.now a.bytes.now a.count in
    let x = gone-through false a.claimed (rows_of t) _ _ _ c.if-claimed-gt64.false c.settle-s.ensures in
    (x.0, x.1.removals, x.1.neighbors)
