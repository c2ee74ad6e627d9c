-- The frame control is changed, and every other field stays.
-- Assumes nothing.
use Rattle.frame.proofs.NwkHeader.with_initiator_cleared.Goals as goal

pub returns : goal.returns
returns c = rw c.without_initiator-frame_control.ensures
