-- The numbers read, the call made, and its answer said.
use Rattle.neighbor_groups.specs.Queries.{contains_call}
use Rattle.neighbor_groups.proofs.queries.contains.Goals as goal

pub returns : goal.returns
unfolding contains_call
returns c = rw (c.truth_answer.ensures, c.contains-said.ensures, c.eui64.ensures)
