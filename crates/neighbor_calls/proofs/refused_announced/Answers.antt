-- No child beside the refusal.
-- Assumes nothing.
use Rattle.neighbor_calls.proofs.refused_announced.Goals as goal

pub returns : goal.returns
returns c = rw (c.new-removed.ensures, c.new-claimed.ensures)
