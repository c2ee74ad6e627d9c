-- The two tests are the definition's; only the status is asked of another function.
-- Assumes nothing.
use Rattle.route_calls.proofs.lacks_hop.Goals as goal

pub returns : goal.returns
returns c = rw c.is_active.ensures
