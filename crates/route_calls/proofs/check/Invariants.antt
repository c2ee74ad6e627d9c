-- The first faulty row of those that are left is the first of all rows, since none of those passed is faulty.
use mathlib.Core.Path.{◌≡◌}
use lib.ListN.{drop}
use Rattle.standard.specs.Calls.{is_faulty}
use Rattle.standard.specs.Query.{first}
use Rattle.discovery_table.specs.Lent.{seen_discoveries}
use Rattle.route_table.specs.Lent.{seen_routes}
use Rattle.route_calls.proofs.check.Given as goal

abbrev pub invariant-loop-i : goal.invariant-loop-i
invariant-loop-i l =
    first (is_faulty (seen_discoveries l.discoveries)) (drop l.i (seen_routes l.routes))
    ≡ first (is_faulty (seen_discoveries l.discoveries)) (seen_routes l.routes)
