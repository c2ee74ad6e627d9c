-- The frame control and the route are set, and every other field stays.
-- Assumes nothing.
use Rattle.frame.proofs.NwkHeader.with_source_route.Goals as goal

pub returns : goal.returns
returns c = rw c.with_source_route-frame_control.ensures
