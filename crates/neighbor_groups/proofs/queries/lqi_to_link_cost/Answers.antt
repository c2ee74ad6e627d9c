-- The numbers read, the call made, and its answer said.
use Rattle.neighbor_groups.specs.Queries.{lqi_to_link_cost_call}
use Rattle.neighbor_groups.proofs.queries.lqi_to_link_cost.Goals as goal

pub returns : goal.returns
unfolding lqi_to_link_cost_call
returns c = rw (c.one.ensures, c.lqi_to_link_cost-cost.ensures, c.byte.ensures)
