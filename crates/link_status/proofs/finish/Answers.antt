-- Field by field; the device type is asked of another function.
-- Assumes nothing.
use Rattle.link_status.specs.Digest.{finished}
use Rattle.link_status.proofs.finish.Goals as goal

pub returns : goal.returns
unfolding finished
returns c = rw (c.is_end_device.ensures, c.as_router.ensures)
