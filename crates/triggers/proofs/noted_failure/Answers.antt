-- The next count is made, written and compared.
-- Assumes nothing.
use Rattle.triggers.proofs.noted_failure.Goals as goal

pub returns : goal.returns
returns c = rw (c.fires_at.ensures, c.next_count-count.ensures)
