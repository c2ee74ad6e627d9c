-- The numbers read, the call made, and its answer said.
use Rattle.neighbor_groups.specs.Lists.{end_device_children_call}
use Rattle.neighbor_groups.proofs.lists.end_device_children.Goals as goal

pub returns : goal.returns
unfolding end_device_children_call
returns c = rw (c.eui64s_answer.ensures, c.end_device_children-said.ensures)
