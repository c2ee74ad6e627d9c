-- There are fewer routes exactly where there was one.
-- Assumes nothing.
use mathlib.Core.Path.{sym, ap, ◌∙◌}
use lib.Dec.{ltb}
use lib.ListN.{length}
use Rattle.route_table.specs.Lent.{table, routes_of}
use Rattle.route_table.proofs.Lent.{formed}
use Rattle.route_table.proofs.Rows.{many}
use Rattle.route_calls.proofs.Rules.{fewer-told}
use Rattle.route_calls.proofs.remove_route.Goals as goal

pub returns : goal.returns
returns c =
    let a = c.args in
    let r = a.routes.now in
    let s = c.remove.new.self in
    let left = c.remove.ensures in
    let now = sym (many (table s) (formed s)) ∙ ap length left.routes in
    record {
      said = (λ z. ltb (now z) (sym (many (table r) (formed r)) z)) ∙ fewer-told a.destination.0 (routes_of r);
      left = left;
    }
