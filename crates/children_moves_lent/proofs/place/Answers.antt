-- Where there is room, the entry that the child starts from is stored with what it says of itself.
use mathlib.Core.Path.{sym, ap, ◌∙◌}
use Rattle.std.specs.Prelude.{Option}
use Rattle.neighbor_table.specs.declared.NeighborEntry.{NeighborEntry}
use Rattle.children.specs.Attach.{start_in, attached}
use Rattle.neighbor_columns.specs.Table.{in_columns}
use Rattle.neighbor_columns.proofs.Rows.{keys-ready}
use Rattle.neighbor_columns.proofs.Told.{not_yes, not-no}
use Rattle.children_moves_lent.proofs.Moves.{no_room, stored-place, stored-room, child-stored}
use Rattle.children_moves_lent.proofs.place.Goals as goal

pub has_room-requires : goal.has_room-requires
has_room-requires c = let a = c.args in let t = in_columns a.keys.now a.nwks.now a.links.now a.counts.now a.deadlines.now a.periods.now a.heard.now a.added.now a.beacons.now a.bytes.now a.count in keys-ready t c.requires.formed

pub returns-then-not-has_room : goal.returns-then-not-has_room
returns-then-not-has_room c = let a = c.args in let t = in_columns a.keys.now a.nwks.now a.links.now a.counts.now a.deadlines.now a.periods.now a.heard.now a.added.now a.beacons.now a.bytes.now a.count in no_room t c.requires a.child a.at a.now_ms (sym (c.has_room.ensures t c.requires.formed) ∙ not_yes _ c.if-not-has_room.true-raw)

pub find-known-requires : goal.find-known-requires
find-known-requires c = c.requires.formed

pub place_of-place-requires : goal.place_of-place-requires
place_of-place-requires c = let a = c.args in let t = in_columns a.keys.now a.nwks.now a.links.now a.counts.now a.deadlines.now a.periods.now a.heard.now a.added.now a.beacons.now a.bytes.now a.count in keys-ready t c.requires.formed

pub put_at-left-requires : goal.put_at-left-requires
put_at-left-requires c = let a = c.args in let t = in_columns a.keys.now a.nwks.now a.links.now a.counts.now a.deadlines.now a.periods.now a.heard.now a.added.now a.beacons.now a.bytes.now a.count in (c.requires.formed, stored-place t c.requires a.child a.at a.now_ms _ (c.attach-e.ensures ∙ ap (attached a.child a.at) (c.start_in.ensures ∙ ap (λ (o : Option NeighborEntry). start_in o a.child.eui64 a.now_ms) c.find-known.ensures)) (sym (c.has_room.ensures t c.requires.formed) ∙ not-no _ c.if-not-has_room.false-raw) _ c.place_of-place.ensures, stored-room t c.requires a.child a.at a.now_ms _ (c.attach-e.ensures ∙ ap (attached a.child a.at) (c.start_in.ensures ∙ ap (λ (o : Option NeighborEntry). start_in o a.child.eui64 a.now_ms) c.find-known.ensures)) (sym (c.has_room.ensures t c.requires.formed) ∙ not-no _ c.if-not-has_room.false-raw))

pub returns : goal.returns
returns c = let a = c.args in let t = in_columns a.keys.now a.nwks.now a.links.now a.counts.now a.deadlines.now a.periods.now a.heard.now a.added.now a.beacons.now a.bytes.now a.count in child-stored t c.requires a.child a.at a.now_ms _ (c.attach-e.ensures ∙ ap (attached a.child a.at) (c.start_in.ensures ∙ ap (λ (o : Option NeighborEntry). start_in o a.child.eui64 a.now_ms) c.find-known.ensures)) (sym (c.has_room.ensures t c.requires.formed) ∙ not-no _ c.if-not-has_room.false-raw) _ c.put_at-left.ensures
