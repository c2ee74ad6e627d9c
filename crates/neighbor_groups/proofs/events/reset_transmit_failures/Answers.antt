-- The numbers read, the call made, and its answer said.
use Rattle.neighbor_groups.specs.Events.{reset_transmit_failures_call}
use Rattle.neighbor_groups.proofs.events.reset_transmit_failures.Goals as goal

pub returns : goal.returns
unfolding reset_transmit_failures_call
returns c = rw (c.changed.ensures, c.reset_transmit_failures.ensures)
