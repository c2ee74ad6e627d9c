-- The numbers read, the call made, and its answer said.
use Rattle.neighbor_groups.specs.Events.{remove_call}
use Rattle.neighbor_groups.proofs.events.remove.Goals as goal

pub returns : goal.returns
unfolding remove_call
returns c = rw (c.changed.ensures, c.remove.ensures, c.eui64.ensures)
