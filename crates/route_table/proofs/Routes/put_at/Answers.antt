-- Over the route that is there, or put in where it is missing, for which there is room.
-- Assumes nothing.
use mathlib.Core.Path.{sym, ◌∙◌}
use Rattle.route_table.specs.Lent.{table}
use Rattle.route_table.proofs.Lent.{formed}
use Rattle.route_table.proofs.Rows.{free-place}
use Rattle.route_table.proofs.Routes.put_at.Goals as goal

pub insert_at-requires : goal.insert_at-requires
insert_at-requires c =
    let r = c.args.self.now in
    let p = sym c.in-Err.is ∙ c.requires.0 in
    (p, free-place (table r) (formed r) _ _ p c.requires.1)
