-- The numbers read, the call made, and its answer said.
use Rattle.neighbor_groups.specs.Queries.{any_live_router_link_call}
use Rattle.neighbor_groups.proofs.queries.any_live_router_link.Goals as goal

pub returns : goal.returns
unfolding any_live_router_link_call
returns c = rw (c.truth_answer.ensures, c.any_live_router_link-said.ensures)
