-- The numbers read, the call made, and its answer said.
use Rattle.neighbor_groups.specs.Events.{update_network_address_call}
use Rattle.neighbor_groups.proofs.events.update_network_address.Goals as goal

pub returns : goal.returns
unfolding update_network_address_call
returns c = rw (c.changed.ensures, c.update_network_address.ensures, c.nwk.ensures, c.eui64.ensures)
