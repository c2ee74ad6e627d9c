-- The numbers read, the call made, and its answer said.
use Rattle.neighbor_groups.specs.Queries.{neighbour_count_call}
use Rattle.neighbor_groups.proofs.queries.neighbour_count.Goals as goal

pub returns : goal.returns
unfolding neighbour_count_call
returns c = rw (c.count_answer.ensures, c.count-said.ensures)
