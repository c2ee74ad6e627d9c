-- The numbers read, the call made, and its answer said.
use Rattle.neighbor_groups.specs.Queries.{sleepy_child_eui64_call}
use Rattle.neighbor_groups.proofs.queries.sleepy_child_eui64.Goals as goal

pub returns : goal.returns
unfolding sleepy_child_eui64_call
returns c = rw (c.eui64_answer.ensures, c.sleepy_child_eui64-said.ensures, c.nwk.ensures)
