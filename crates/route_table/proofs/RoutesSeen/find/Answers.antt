-- The place among the keys is the row among the rows.
-- Assumes nothing.
use Rattle.std.specs.Prelude.{Some}
use mathlib.Core.Path.{sym, ap, ◌∙◌}
use native.Mathlib.Omega.{arith}
use Rattle.route_table.specs.Lent.{seen_table}
use Rattle.route_table.proofs.Lent.{seen-formed}
use Rattle.route_table.proofs.Rows.{found-row, place-within, missing-row}
use Rattle.route_table.proofs.RoutesSeen.find.Goals as goal

pub entry_at-e-requires : goal.entry_at-e-requires
entry_at-e-requires c =
    let r = c.args.self.now in
    let w = seen-formed r in
    omega (arith, place-within (seen_table r) w c.args.destination.0 _ (sym c.in-Ok.is ∙ c.place_of.ensures), w.ordered.small)

pub returns-in-Ok : goal.returns-in-Ok
returns-in-Ok c =
    let r = c.args.self.now in
    ap Some c.entry_at-e.ensures ∙ (sym (found-row (seen_table r) (seen-formed r) _ _ (sym c.in-Ok.is ∙ c.place_of.ensures)))

pub returns-in-Err : goal.returns-in-Err
returns-in-Err c =
    let r = c.args.self.now in
    (sym (missing-row (seen_table r) (seen-formed r) _ _ (sym c.in-Err.is ∙ c.place_of.ensures)))
