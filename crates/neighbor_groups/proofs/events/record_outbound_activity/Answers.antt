-- The numbers read, the call made, and its answer said.
use Rattle.neighbor_groups.specs.Events.{record_outbound_activity_call}
use Rattle.neighbor_groups.proofs.events.record_outbound_activity.Goals as goal

pub returns : goal.returns
unfolding record_outbound_activity_call
returns c = rw (c.changed.ensures, c.record_outbound_activity.ensures, c.eui64.ensures)
