-- The numbers read, the call made, and its answer said.
use Rattle.neighbor_groups.specs.Child.{refresh_child_timeout_call}
use Rattle.neighbor_groups.proofs.child.refresh_child_timeout.Goals as goal

pub returns : goal.returns
unfolding refresh_child_timeout_call
returns c = rw (c.truth_reply.ensures, c.refresh_child_timeout.ensures, c.data_poll-poll.ensures)
