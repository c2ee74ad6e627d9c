-- The entry that was found, or one with nothing but its address and the moment.
-- Assumes nothing.
use Rattle.children.proofs.start_in.Goals as goal

pub returns-in-Some : goal.returns-in-Some
returns-in-Some c = rw c.in-Some.is

pub returns-in-None : goal.returns-in-None
returns-in-None c = rw (c.in-None.is, c.new.ensures)
