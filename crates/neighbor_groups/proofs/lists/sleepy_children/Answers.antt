-- The numbers read, the call made, and its answer said.
use Rattle.neighbor_groups.specs.Lists.{sleepy_children_call}
use Rattle.neighbor_groups.proofs.lists.sleepy_children.Goals as goal

pub returns : goal.returns
unfolding sleepy_children_call
returns c = rw (c.children_answer.ensures, c.sleepy_children-said.ensures)
