-- A route that is there is taken out of every column, and so out of the rows; one that is missing leaves them.
-- Assumes nothing.
use mathlib.Core.Path.{refl, sym, ap, ◌∙◌}
use Rattle.route_table.specs.Lent.{table, place_in}
use Rattle.route_table.specs.Table.{RouteTable, rows_of}
use Rattle.route_table.proofs.Lent.{formed}
use Rattle.route_table.proofs.Rows.{place-within, out-holds, none_out}
use Rattle.route_table.proofs.Routes.remove.Goals as goal

pub remove_at-requires : goal.remove_at-requires
remove_at-requires c =
    let a = c.args in
    let r = a.self.now in
    place-within (table r) (formed r) a.destination.0 _ (sym c.in-Ok.is ∙ c.place_of-place.ensures ∙ ap (λ (t : RouteTable). place_in t a.destination.0) c.seen.ensures)

pub returns-in-Ok : goal.returns-in-Ok
returns-in-Ok c =
    let a = c.args in
    let r = a.self.now in
    record {
      same = c.remove_at.ensures.same;
      routes = ap rows_of c.remove_at.ensures.out ∙ (out-holds (table r) (formed r) a.destination.0 _ (sym c.in-Ok.is ∙ c.place_of-place.ensures ∙ ap (λ (t : RouteTable). place_in t a.destination.0) c.seen.ensures)).rows;
    }

pub returns-in-Err : goal.returns-in-Err
returns-in-Err c =
    let a = c.args in
    let r = a.self.now in
    record {
      same = record { keys = refl; words = refl; usage = refl };
      routes = (none_out (table r) (formed r) a.destination.0 _ (sym c.in-Err.is ∙ c.place_of-place.ensures ∙ ap (λ (t : RouteTable). place_in t a.destination.0) c.seen.ensures)).rows;
    }
