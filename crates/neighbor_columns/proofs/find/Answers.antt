-- The place of the address is that of its row, or says that there is none.
use Rattle.std.specs.Prelude.{Some}
use native.Mathlib.Omega.{arith}
use mathlib.Core.Path.{sym, ap, ◌∙◌}
use Rattle.neighbor_columns.specs.Table.{in_columns}
use Rattle.neighbor_columns.proofs.Rows.{found-row, missing-row, place-within, in-places}
use Rattle.neighbor_columns.proofs.find.Goals as goal

pub place_of-place-requires : goal.place_of-place-requires
place_of-place-requires c = (omega (arith, c.requires.ordered.small, c.requires.ordered.long.0), c.requires.ordered.rising)

pub entry_at-requires : goal.entry_at-requires
entry_at-requires c =
    let a = c.args in
    let t = in_columns a.keys.now a.nwks.now a.links.now a.counts.now a.deadlines.now a.periods.now a.heard.now a.added.now a.beacons.now a.bytes.now a.count in
    in-places t c.requires _ (place-within t c.requires _ _ (sym c.in-Ok.is ∙ c.place_of-place.ensures))

pub returns-in-Ok : goal.returns-in-Ok
returns-in-Ok c =
    let a = c.args in
    let t = in_columns a.keys.now a.nwks.now a.links.now a.counts.now a.deadlines.now a.periods.now a.heard.now a.added.now a.beacons.now a.bytes.now a.count in
    ap Some c.entry_at.ensures ∙ sym (found-row t c.requires _ _ (sym c.in-Ok.is ∙ c.place_of-place.ensures))

pub returns-in-Err : goal.returns-in-Err
returns-in-Err c =
    let a = c.args in
    let t = in_columns a.keys.now a.nwks.now a.links.now a.counts.now a.deadlines.now a.periods.now a.heard.now a.added.now a.beacons.now a.bytes.now a.count in
    sym (missing-row t c.requires _ _ (sym c.in-Err.is ∙ c.place_of-place.ensures))
