-- The numbers read, the call made, and its answer said.
use Rattle.neighbor_groups.specs.Queries.{neighbour_at_call}
use Rattle.neighbor_groups.proofs.queries.neighbour_at.Goals as goal

pub returns : goal.returns
unfolding neighbour_at_call
returns c = rw (c.entry_answer.ensures, c.entry_at-said.ensures, c.at.ensures)
