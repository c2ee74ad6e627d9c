-- The numbers read, the call made, and its answer said.
use Rattle.neighbor_groups.specs.Child.{process_parent_annce_call}
use Rattle.neighbor_groups.proofs.child.process_parent_annce.Goals as goal

pub returns : goal.returns
unfolding process_parent_annce_call
returns c = rw (c.announced_reply.ensures, c.process_parent_annce.ensures, c.names-announced.ensures)
