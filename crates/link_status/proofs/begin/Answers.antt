-- Each part by the test.
-- Assumes nothing.
use Rattle.link_status.proofs.begin.Goals as goal

pub returns : goal.returns
returns c = rw (c.pick-3.ensures, c.pick-2.ensures, c.pick.ensures)
