-- The numbers read, the call made, and its answer said.
use Rattle.neighbor_groups.specs.Lists.{incoming_link_cost_call}
use Rattle.neighbor_groups.proofs.lists.incoming_link_cost.Goals as goal

pub returns : goal.returns
unfolding incoming_link_cost_call
returns c = rw (c.cost_answer.ensures, c.entry_of-said.ensures, c.eui64.ensures)
