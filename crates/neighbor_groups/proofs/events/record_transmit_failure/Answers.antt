-- The numbers read, the call made, and its answer said.
use Rattle.neighbor_groups.specs.Events.{record_transmit_failure_call}
use Rattle.neighbor_groups.proofs.events.record_transmit_failure.Goals as goal

pub returns : goal.returns
unfolding record_transmit_failure_call
returns c = rw (c.changed.ensures, c.record_transmit_failure.ensures, c.eui64.ensures)
