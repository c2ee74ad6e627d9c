-- The numbers read, the call made, and its answer said.
use Rattle.neighbor_groups.specs.Queries.{has_network_address_call}
use Rattle.neighbor_groups.proofs.queries.has_network_address.Goals as goal

pub returns : goal.returns
unfolding has_network_address_call
returns c = rw (c.truth_answer.ensures, c.has_network_address-said.ensures, c.nwk.ensures)
