-- Of the two host routes one has a list, and its count is tested.
-- Assumes nothing.
use Rattle.next_hop.proofs.modes.host_long.Goals as goal

pub returns-in-SourceRoute : goal.returns-in-SourceRoute
returns-in-SourceRoute c = rw c.in-SourceRoute.is
