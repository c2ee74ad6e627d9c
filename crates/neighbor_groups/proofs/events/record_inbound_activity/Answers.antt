-- The numbers read, the call made, and its answer said.
use Rattle.neighbor_groups.specs.Events.{record_inbound_activity_call}
use Rattle.neighbor_groups.proofs.events.record_inbound_activity.Goals as goal

pub returns : goal.returns
unfolding record_inbound_activity_call
returns c = rw (c.changed.ensures, c.record_inbound_activity.ensures, c.nwk.ensures)
