-- A table that is not formed and one with no room are told; else the entry is put at its place, and the columns are those of the rows.
-- Assumes nothing.
use mathlib.Core.Bool.{true}
use mathlib.Core.Path.{◌≡◌, sym, ap, ◌∙◌}
use lib.Dec.{leb}
use lib.ListN.{length}
use borrow.Author.Tests.{not-true, not-false, leb-true}
use Rattle.standard.specs.Ordered.{count_with}
use Rattle.waiting_table.specs.Entry.{waiting_key}
use Rattle.waiting_columns.specs.Table.{WaitingTable, Formed64, formed64}
use Rattle.waiting_columns.proofs.Rows.{formed-told, room-told, keeps-table}
use Rattle.neighbors.specs.State.{waiting_in, waits}
use Rattle.neighbor_loads.specs.Loads.{loaded, with_waiting, waiting_put}
use borrow.Author.Rules.{rules}
use Rattle.neighbor_loads.proofs.load_waiting.Goals as goal
use Rattle.neighbor_loads.proofs.load_waiting.Goals.{Start, Else-not-formed, After-has_room}

long : (c : Start) → (length c.args.s.senders ≡ 64) × (length c.args.s.samples ≡ 64)
long c = (search rules, search rules)

good : (c : Else-not-formed) → formed64 (waiting_in c.args.s) ≡ true
good c = sym c.formed.ensures ∙ not-false _ c.if-not-formed.false-raw

table-formed : (c : Else-not-formed) → Formed64 (waiting_in c.args.s)
table-formed c = (formed-told (waiting_in c.args.s)).fact (good c)

room : (c : After-has_room) → leb (count_with waiting_key (waiting_key c.args.e) (waits c.args.s)) 64 ≡ c.has_room.result
room c = room-told (waiting_in c.args.s) ((formed-told (waiting_in c.args.s)).fact (sym c.formed.ensures ∙ not-false _ c.if-not-formed.false-raw)) (waiting_key c.args.e) c.place_of-place.result c.place_of-place.ensures ∙ sym c.has_room.ensures

pub slice_bounds-formed-end : goal.slice_bounds-formed-end
slice_bounds-formed-end c = sym (long (goal.at.slice_bounds-formed-end c).Start).0

pub slice_bounds-formed-end-2 : goal.slice_bounds-formed-end-2
slice_bounds-formed-end-2 c = sym (long (goal.at.slice_bounds-formed-end-2 c).Start).1

pub returns-then-not-formed : goal.returns-then-not-formed
unfolding waiting_put
returns-then-not-formed c = rw (sym c.formed.ensures ∙ not-true _ c.if-not-formed.true-raw) c.no_call.ensures

pub slice_bounds-place_of-end : goal.slice_bounds-place_of-end
slice_bounds-place_of-end c = sym (long (goal.at.slice_bounds-place_of-end c).Start).0

pub slice_bounds-place_of-end-2 : goal.slice_bounds-place_of-end-2
slice_bounds-place_of-end-2 c = sym (long (goal.at.slice_bounds-place_of-end-2 c).Start).1

pub place_of-place-requires : goal.place_of-place-requires
place_of-place-requires c = table-formed (goal.at.place_of-place-requires c).Else-not-formed

pub returns-then-not-has_room : goal.returns-then-not-has_room
unfolding waiting_put
returns-then-not-has_room c = rw (good (goal.at.returns-then-not-has_room c).Else-not-formed, room (goal.at.returns-then-not-has_room c).After-has_room ∙ not-true _ c.if-not-has_room.true-raw) c.no_call-then-not-has_room.ensures

pub slice_bounds-put_at-end : goal.slice_bounds-put_at-end
slice_bounds-put_at-end c = sym (long (goal.at.slice_bounds-put_at-end c).Start).0

pub slice_bounds-put_at-end-2 : goal.slice_bounds-put_at-end-2
slice_bounds-put_at-end-2 c = sym (long (goal.at.slice_bounds-put_at-end-2 c).Start).1

pub put_at-n-requires : goal.put_at-n-requires
put_at-n-requires c = (table-formed (goal.at.put_at-n-requires c).Else-not-formed, c.place_of-place.ensures, leb-true _ 64 (room (goal.at.put_at-n-requires c).After-has_room ∙ not-false _ c.if-not-has_room.false-raw))

pub returns : goal.returns
unfolding waiting_put
returns c =
    rw (good (goal.at.returns c).Else-not-formed, room (goal.at.returns c).After-has_room ∙ not-false _ c.if-not-has_room.false-raw)
    (c.load.ensures ∙ ap (λ (t : WaitingTable). loaded (with_waiting c.args.s t)) (keeps-table _ _ c.put_at-n.ensures))
