-- The numbers read, the call made, and its answer said.
use Rattle.neighbor_groups.specs.Child.{take_child_call}
use Rattle.neighbor_groups.proofs.child.take_child.Goals as goal

pub returns : goal.returns
unfolding take_child_call
returns c = rw (c.nwk_reply.ensures, c.take_child.ensures, c.eui64.ensures)
