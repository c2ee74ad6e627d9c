-- The state is asked with what the numbers give, and the answer said.
use Rattle.routing_groups.specs.Asked.{route_status_call}
use Rattle.routing_groups.proofs.questions.route_status.Goals as goal

pub returns : goal.returns
unfolding route_status_call
returns c = rw (c.status_answer.ensures, c.route_status-o.ensures, c.nwk-x0.ensures)
