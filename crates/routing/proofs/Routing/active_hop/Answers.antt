-- The routes of a well-formed state are well formed.
-- Assumes nothing.
use Rattle.route_table.proofs.Lent.{told}
use Rattle.routing.proofs.Routing.active_hop.Goals as goal

pub invariant_of-routes : goal.invariant_of-routes
invariant_of-routes c = record { formed = told _ c.requires.routes }
