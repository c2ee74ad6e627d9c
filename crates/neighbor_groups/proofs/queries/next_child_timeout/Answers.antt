-- The numbers read, the call made, and its answer said.
use Rattle.neighbor_groups.specs.Queries.{next_child_timeout_call}
use Rattle.neighbor_groups.proofs.queries.next_child_timeout.Goals as goal

pub returns : goal.returns
unfolding next_child_timeout_call
returns c = rw (c.moment_answer.ensures, c.next_child_timeout-said.ensures)
