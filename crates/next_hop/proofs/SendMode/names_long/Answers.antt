-- Each mode is taken apart, and its directive tested.
-- Assumes nothing.
use Rattle.next_hop.proofs.SendMode.names_long.Goals as goal

pub returns-in-Route : goal.returns-in-Route
returns-in-Route c = rw c.in-Route.is c.directive_long.ensures
