-- No child beside the refusal.
-- Assumes nothing.
use Rattle.neighbor_calls.proofs.refused_removal.Goals as goal

pub returns : goal.returns
returns c = rw c.new-removed.ensures
