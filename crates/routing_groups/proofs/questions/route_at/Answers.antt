-- The state is asked with what the numbers give, and the answer said.
use Rattle.routing_groups.specs.Asked.{route_at_call}
use Rattle.routing_groups.proofs.questions.route_at.Goals as goal

pub returns : goal.returns
unfolding route_at_call
returns c = rw (c.route_at_answer.ensures, c.route_at-o.ensures, c.at-x0.ensures)
