-- The numbers read, the call made, and its answer said.
use Rattle.neighbor_groups.specs.Lists.{is_child_call}
use Rattle.neighbor_groups.proofs.lists.is_child.Goals as goal

pub returns : goal.returns
unfolding is_child_call
returns c = rw (c.is_child_answer.ensures, c.entry_of-said.ensures, c.eui64.ensures)
