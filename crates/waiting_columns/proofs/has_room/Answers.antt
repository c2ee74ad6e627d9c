-- The place of the address says whether there is room under it.
use mathlib.Core.Path.{sym, ◌∙◌}
use Rattle.waiting_columns.specs.Table.{in_columns}
use Rattle.waiting_columns.proofs.Rows.{room-told}
use Rattle.waiting_columns.proofs.has_room.Goals as goal

pub returns : goal.returns
returns c =
    let a = c.args in
    let t = in_columns a.keys.now a.samples.now a.count in
    c.has_room.ensures ∙ sym (room-told t c.requires _ _ c.place_of-place.ensures)
