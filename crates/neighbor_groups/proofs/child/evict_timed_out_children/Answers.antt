-- The numbers read, the call made, and its answer said.
use Rattle.neighbor_groups.specs.Child.{evict_timed_out_children_call}
use Rattle.neighbor_groups.proofs.child.evict_timed_out_children.Goals as goal

pub returns : goal.returns
unfolding evict_timed_out_children_call
returns c = rw (c.removal_reply.ensures, c.evict_timed_out_children.ensures, c.at.ensures)
