-- What is in use is the row there, and nothing from the count on.
use Rattle.std.specs.Prelude.{Some}
use native.Mathlib.Omega.{arith}
use mathlib.Core.Path.{sym, ap, ◌∙◌}
use Rattle.neighbor_columns.specs.Table.{in_columns}
use Rattle.neighbor_columns.proofs.Rows.{row-in-use, row-not-in-use, in-places}
use Rattle.neighbor_columns.proofs.at.Goals as goal

pub returns-then-count-i : goal.returns-then-count-i
returns-then-count-i c =
    let a = c.args in
    let t = in_columns a.keys.now a.nwks.now a.links.now a.counts.now a.deadlines.now a.periods.now a.heard.now a.added.now a.beacons.now a.bytes.now a.count in
    sym (row-not-in-use t c.requires a.i (omega (arith, c.if-count-i.true)))

pub entry_at-requires : goal.entry_at-requires
entry_at-requires c =
    let a = c.args in
    let t = in_columns a.keys.now a.nwks.now a.links.now a.counts.now a.deadlines.now a.periods.now a.heard.now a.added.now a.beacons.now a.bytes.now a.count in
    in-places t c.requires a.i (omega (arith, c.if-count-i.false))

pub returns : goal.returns
returns c =
    let a = c.args in
    let t = in_columns a.keys.now a.nwks.now a.links.now a.counts.now a.deadlines.now a.periods.now a.heard.now a.added.now a.beacons.now a.bytes.now a.count in
    ap Some c.entry_at.ensures ∙ sym (row-in-use t c.requires a.i (omega (arith, c.if-count-i.false)))
