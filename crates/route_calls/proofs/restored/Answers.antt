-- A new Active route by the hop, with its cost written over.
-- Assumes nothing.
use Rattle.route_calls.proofs.restored.Goals as goal

pub returns : goal.returns
returns c = rw c.new_route-e.ensures
