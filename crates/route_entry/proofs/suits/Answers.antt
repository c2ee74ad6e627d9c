-- The two tests are the definition's.
-- Assumes nothing.
use Rattle.route_entry.proofs.suits.Goals as goal

pub returns : goal.returns
returns c = rw c.is_active.ensures
