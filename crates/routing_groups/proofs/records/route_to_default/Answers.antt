-- The state is asked with what the numbers give, and the answer said.
use Rattle.routing_groups.specs.Recorded.{route_to_default_call}
use Rattle.routing_groups.proofs.records.route_to_default.Goals as goal

pub returns : goal.returns
unfolding route_to_default_call
returns c = rw (c.way_answer.ensures, c.route_to_default-o.ensures, c.nwk-destination.ensures)
