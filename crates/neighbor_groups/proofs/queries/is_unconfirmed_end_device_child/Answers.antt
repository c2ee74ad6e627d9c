-- The numbers read, the call made, and its answer said.
use Rattle.neighbor_groups.specs.Queries.{is_unconfirmed_end_device_child_call}
use Rattle.neighbor_groups.proofs.queries.is_unconfirmed_end_device_child.Goals as goal

pub returns : goal.returns
unfolding is_unconfirmed_end_device_child_call
returns c = rw (c.truth_answer.ensures, c.is_unconfirmed_end_device_child-said.ensures, c.eui64.ensures)
