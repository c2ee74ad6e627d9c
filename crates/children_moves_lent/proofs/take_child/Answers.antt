-- The place of the address is that of its row, which is taken out where it is a child, or says that there is none.
use native.Mathlib.Omega.{arith}
use mathlib.Core.Path.{sym, ◌∙◌}
use Rattle.neighbor_columns.specs.Table.{in_columns}
use Rattle.neighbor_columns.proofs.Rows.{keys-ready, in-places, place-within, found-row, missing-row}
use Rattle.neighbor_columns.proofs.Told.{not_yes, not-no}
use Rattle.children_moves_lent.proofs.Moves.{none-taken, other-stays, child-goes}
use Rattle.children_moves_lent.proofs.take_child.Goals as goal

pub place_of-place-requires : goal.place_of-place-requires
place_of-place-requires c = let a = c.args in let t = in_columns a.keys.now a.nwks.now a.links.now a.counts.now a.deadlines.now a.periods.now a.heard.now a.added.now a.beacons.now a.bytes.now a.count in keys-ready t c.requires.formed

pub offset_bounds-links-i : goal.offset_bounds-links-i
offset_bounds-links-i c = let a = c.args in let t = in_columns a.keys.now a.nwks.now a.links.now a.counts.now a.deadlines.now a.periods.now a.heard.now a.added.now a.beacons.now a.bytes.now a.count in omega (arith, c.requires.formed.ordered.small, c.requires.formed.ordered.long.1.1.0, (place-within t c.requires.formed _ _ (sym c.in-Ok.is ∙ c.place_of-place.ensures)))

pub bounds-links-i : goal.bounds-links-i
bounds-links-i c = let a = c.args in let t = in_columns a.keys.now a.nwks.now a.links.now a.counts.now a.deadlines.now a.periods.now a.heard.now a.added.now a.beacons.now a.bytes.now a.count in omega (arith, c.requires.formed.ordered.small, c.requires.formed.ordered.long.1.1.0, (place-within t c.requires.formed _ _ (sym c.in-Ok.is ∙ c.place_of-place.ensures)))

pub returns-then-not-is_child_link : goal.returns-then-not-is_child_link
returns-then-not-is_child_link c = let a = c.args in let t = in_columns a.keys.now a.nwks.now a.links.now a.counts.now a.deadlines.now a.periods.now a.heard.now a.added.now a.beacons.now a.bytes.now a.count in other-stays t c.requires a.eui64 _ (found-row t c.requires.formed _ _ (sym c.in-Ok.is ∙ c.place_of-place.ensures)) (sym c.is_child_link.ensures ∙ not_yes _ c.if-not-is_child_link.true-raw)

pub offset_bounds-nwks-i : goal.offset_bounds-nwks-i
offset_bounds-nwks-i c = let a = c.args in let t = in_columns a.keys.now a.nwks.now a.links.now a.counts.now a.deadlines.now a.periods.now a.heard.now a.added.now a.beacons.now a.bytes.now a.count in omega (arith, c.requires.formed.ordered.small, c.requires.formed.ordered.long.1.0, (place-within t c.requires.formed _ _ (sym c.in-Ok.is ∙ c.place_of-place.ensures)))

pub bounds-nwks-i : goal.bounds-nwks-i
bounds-nwks-i c = let a = c.args in let t = in_columns a.keys.now a.nwks.now a.links.now a.counts.now a.deadlines.now a.periods.now a.heard.now a.added.now a.beacons.now a.bytes.now a.count in omega (arith, c.requires.formed.ordered.small, c.requires.formed.ordered.long.1.0, (place-within t c.requires.formed _ _ (sym c.in-Ok.is ∙ c.place_of-place.ensures)))

pub remove_at-left-requires : goal.remove_at-left-requires
remove_at-left-requires c = let a = c.args in let t = in_columns a.keys.now a.nwks.now a.links.now a.counts.now a.deadlines.now a.periods.now a.heard.now a.added.now a.beacons.now a.bytes.now a.count in (in-places t c.requires.formed _ (place-within t c.requires.formed _ _ (sym c.in-Ok.is ∙ c.place_of-place.ensures)), omega (arith, (place-within t c.requires.formed _ _ (sym c.in-Ok.is ∙ c.place_of-place.ensures))))

pub returns-else-not-is_child_link : goal.returns-else-not-is_child_link
returns-else-not-is_child_link c = let a = c.args in let t = in_columns a.keys.now a.nwks.now a.links.now a.counts.now a.deadlines.now a.periods.now a.heard.now a.added.now a.beacons.now a.bytes.now a.count in child-goes t c.requires a.eui64 _ (found-row t c.requires.formed _ _ (sym c.in-Ok.is ∙ c.place_of-place.ensures)) (sym c.is_child_link.ensures ∙ not-no _ c.if-not-is_child_link.false-raw) (sym c.in-Ok.is ∙ c.place_of-place.ensures) _ c.remove_at-left.ensures

pub returns-in-Err : goal.returns-in-Err
returns-in-Err c = let a = c.args in let t = in_columns a.keys.now a.nwks.now a.links.now a.counts.now a.deadlines.now a.periods.now a.heard.now a.added.now a.beacons.now a.bytes.now a.count in none-taken t c.requires a.eui64 (missing-row t c.requires.formed _ _ (sym c.in-Err.is ∙ c.place_of-place.ensures))
