-- Over the discovery that is there, or put in where it is missing, for which there is room.
-- Assumes nothing.
use mathlib.Core.Path.{sym, ◌∙◌}
use Rattle.discovery_table.specs.Lent.{table}
use Rattle.discovery_table.proofs.Lent.{formed}
use Rattle.discovery_table.proofs.Rows.{room-left}
use Rattle.discovery_table.proofs.Discoveries.put_at.Goals as goal

pub insert_at-requires : goal.insert_at-requires
insert_at-requires c =
    let d = c.args.self.now in
    let p = sym c.in-Err.is ∙ c.requires.0 in
    (p, room-left (table d) (formed d) _ _ p c.requires.1)
