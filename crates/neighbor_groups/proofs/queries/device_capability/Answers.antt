-- The numbers read, the call made, and its answer said.
use Rattle.neighbor_groups.specs.Queries.{device_capability_call}
use Rattle.neighbor_groups.proofs.queries.device_capability.Goals as goal

pub returns : goal.returns
unfolding device_capability_call
returns c = rw (c.capability_answer.ensures, c.device_capability-said.ensures, c.eui64.ensures)
