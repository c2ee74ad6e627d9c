-- The numbers read, the call made, and its answer said.
use Rattle.neighbor_groups.specs.Lists.{expected_broadcast_relayers_call}
use Rattle.neighbor_groups.proofs.lists.expected_broadcast_relayers.Goals as goal

pub returns : goal.returns
unfolding expected_broadcast_relayers_call
returns c = rw (c.nwks_answer.ensures, c.expected_broadcast_relayers-said.ensures)
