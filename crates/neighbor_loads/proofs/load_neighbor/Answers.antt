-- A table that is not formed and one with no room are told; else the entry is put at its place.
-- Assumes nothing.
use mathlib.Core.Bool.{true}
use mathlib.Core.Path.{◌≡◌, sym, ◌∙◌}
use lib.Dec.{leb}
use borrow.Author.Tests.{not-true, not-false, leb-true}
use Rattle.standard.specs.Ordered.{count_with}
use Rattle.neighbor_table.specs.Entry.{neighbor_key}
use Rattle.neighbor_columns.specs.Table.{Formed64, formed64}
use Rattle.neighbor_columns.proofs.Rows.{formed-told, keys-ready, room-told}
use Rattle.neighbors.specs.State.{table_in, rows}
use Rattle.neighbor_loads.specs.Loads.{neighbor_put}
use Rattle.neighbor_loads.proofs.load_neighbor.Goals as goal
use Rattle.neighbor_loads.proofs.load_neighbor.Goals.{Else-not-neighbors_formed, After-has_room}

good : (c : Else-not-neighbors_formed) → formed64 (table_in c.args.s) ≡ true
good c = sym c.neighbors_formed.ensures ∙ not-false _ c.if-not-neighbors_formed.false-raw

formed : (c : Else-not-neighbors_formed) → Formed64 (table_in c.args.s)
formed c = (formed-told (table_in c.args.s)).fact (good c)

room : (c : After-has_room) → leb (count_with neighbor_key (neighbor_key c.args.e) (rows c.args.s)) 64 ≡ c.has_room.result
room c = room-told (table_in c.args.s) ((formed-told (table_in c.args.s)).fact (sym c.neighbors_formed.ensures ∙ not-false _ c.if-not-neighbors_formed.false-raw)) (neighbor_key c.args.e) c.place_of-place.result c.place_of-place.ensures ∙ sym c.has_room.ensures

pub returns-then-not-neighbors_formed : goal.returns-then-not-neighbors_formed
unfolding neighbor_put
returns-then-not-neighbors_formed c = rw (sym c.neighbors_formed.ensures ∙ not-true _ c.if-not-neighbors_formed.true-raw) c.no_call.ensures

pub place_of-place-requires : goal.place_of-place-requires
place_of-place-requires c = keys-ready (table_in c.args.s) (formed (goal.at.place_of-place-requires c).Else-not-neighbors_formed)

pub returns-then-not-has_room : goal.returns-then-not-has_room
unfolding neighbor_put
returns-then-not-has_room c = rw (good (goal.at.returns-then-not-has_room c).Else-not-neighbors_formed, room (goal.at.returns-then-not-has_room c).After-has_room ∙ not-true _ c.if-not-has_room.true-raw) c.no_call-then-not-has_room.ensures

pub with_neighbor-x-requires : goal.with_neighbor-x-requires
with_neighbor-x-requires c = (formed (goal.at.with_neighbor-x-requires c).Else-not-neighbors_formed, c.place_of-place.ensures, leb-true _ 64 (room (goal.at.with_neighbor-x-requires c).After-has_room ∙ not-false _ c.if-not-has_room.false-raw))

pub returns : goal.returns
unfolding neighbor_put
returns c = rw (good (goal.at.returns c).Else-not-neighbors_formed, room (goal.at.returns c).After-has_room ∙ not-false _ c.if-not-has_room.false-raw) (c.load.ensures ∙ rw c.with_neighbor-x.ensures)
