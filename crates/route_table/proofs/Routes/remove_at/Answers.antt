-- Every column loses the place, which is in use, and the count goes down by one.
-- Assumes nothing.
use mathlib.Core.Bool.{true}
use mathlib.Core.Path.{◌≡◌, sym, subst}
use Rattle.route_table.specs.Lent.{table}
use Rattle.route_table.specs.Table.{RouteTable, well_formed}
use Rattle.route_table.proofs.Lent.{formed, told, out-formed}
use Rattle.route_table.proofs.Rows.{in-columns}
use Rattle.route_table.proofs.Routes.remove_at.Goals as goal

pub shift_out_all-requires : goal.shift_out_all-requires
shift_out_all-requires c =
    let r = c.args.self.now in
    let h = in-columns (table r) (formed r) _ c.requires in
    (h.0, h.1, h.2, c.requires)

pub invariant_of-self : goal.invariant_of-self
invariant_of-self c =
    let r = c.args.self.now in
    record { formed = subst (λ (t : RouteTable). well_formed t ≡ true) (sym c.shift_out_all.ensures) (told _ (out-formed (table r) (formed r) c.args.i c.requires)) }
