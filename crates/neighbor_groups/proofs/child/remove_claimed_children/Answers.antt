-- The numbers read, the call made, and its answer said.
use Rattle.neighbor_groups.specs.Child.{remove_claimed_children_call}
use Rattle.neighbor_groups.proofs.child.remove_claimed_children.Goals as goal

pub returns : goal.returns
unfolding remove_claimed_children_call
returns c = rw (c.removal_reply.ensures, c.remove_claimed_children.ensures, c.names-claimed.ensures)
