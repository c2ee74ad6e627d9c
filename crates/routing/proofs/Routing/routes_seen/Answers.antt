-- The table of a well-formed state is well formed.
-- Assumes nothing.
use Rattle.route_table.proofs.Lent.{told}
use Rattle.routing.proofs.Routing.routes_seen.Goals as goal

pub invariant_of-result : goal.invariant_of-result
invariant_of-result c = record { formed = told _ c.requires.routes }
