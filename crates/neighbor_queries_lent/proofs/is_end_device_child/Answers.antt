-- Both tests.
use Rattle.neighbor_queries_lent.proofs.is_end_device_child.Goals as goal

pub returns : goal.returns
returns c = rw (c.is_end_device.ensures, c.is_child.ensures)
