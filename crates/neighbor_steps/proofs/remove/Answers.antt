-- The place of the address is that of its row, which is taken out, or says that there is none.
use native.Mathlib.Omega.{arith}
use mathlib.Core.Path.{sym, ◌∙◌, subst}
use Rattle.standard.specs.Ordered as ordered
use Rattle.neighbor_table.specs.Entry.{neighbor_key}
use Rattle.neighbor_columns.specs.Table.{NeighborTable, in_columns, rows_of, Keeps}
use Rattle.neighbor_columns.proofs.Rows.{in-places, place-within, taken_out, none_out}
use Rattle.neighbor_steps.proofs.remove.Goals as goal

pub place_of-place-requires : goal.place_of-place-requires
place_of-place-requires c = (omega (arith, c.requires.ordered.small, c.requires.ordered.long.0), c.requires.ordered.rising)

pub remove_at-requires : goal.remove_at-requires
remove_at-requires c =
    let a = c.args in
    let t = in_columns a.keys.now a.nwks.now a.links.now a.counts.now a.deadlines.now a.periods.now a.heard.now a.added.now a.beacons.now a.bytes.now a.count in
    (in-places t c.requires _ (place-within t c.requires _ _ (sym c.in-Ok.is ∙ c.place_of-place.ensures)), omega (arith, place-within t c.requires _ _ (sym c.in-Ok.is ∙ c.place_of-place.ensures)))

pub returns-in-Ok : goal.returns-in-Ok
returns-in-Ok c =
    let a = c.args in
    let t = in_columns a.keys.now a.nwks.now a.links.now a.counts.now a.deadlines.now a.periods.now a.heard.now a.added.now a.beacons.now a.bytes.now a.count in
    subst (λ (x : NeighborTable). Keeps x (ordered.remove neighbor_key a.eui64.0 (rows_of t))) (sym c.remove_at.ensures) (taken_out t c.requires _ _ (sym c.in-Ok.is ∙ c.place_of-place.ensures))

pub returns-in-Err : goal.returns-in-Err
returns-in-Err c =
    let a = c.args in
    let t = in_columns a.keys.now a.nwks.now a.links.now a.counts.now a.deadlines.now a.periods.now a.heard.now a.added.now a.beacons.now a.bytes.now a.count in
    none_out t c.requires _ _ (sym c.in-Err.is ∙ c.place_of-place.ensures)
