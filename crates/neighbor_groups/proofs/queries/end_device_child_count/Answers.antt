-- The numbers read, the call made, and its answer said.
use Rattle.neighbor_groups.specs.Queries.{end_device_child_count_call}
use Rattle.neighbor_groups.proofs.queries.end_device_child_count.Goals as goal

pub returns : goal.returns
unfolding end_device_child_count_call
returns c = rw (c.count_answer.ensures, c.end_device_child_count-said.ensures)
