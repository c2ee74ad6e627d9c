-- The place of the address tells whether there is room.
use mathlib.Core.Path.{sym, ◌∙◌}
use Rattle.neighbor_columns.specs.Lent.{lent_keys}
use Rattle.neighbor_columns.proofs.Rows.{room-told}
use Rattle.neighbor_columns.proofs.has_room.Goals as goal

pub returns : goal.returns
returns c =
    λ t f. c.has_room.ensures ∙ sym (room-told (lent_keys c.args.keys.now c.args.count t) f c.args.eui64.0 _ c.place_of-place.ensures)
