-- The state is asked with what the numbers give, and the answer said.
use Rattle.routing_groups.specs.Asked.{discovery_at_call}
use Rattle.routing_groups.proofs.questions.discovery_at.Goals as goal

pub returns : goal.returns
unfolding discovery_at_call
returns c = rw (c.discovery_at_answer.ensures, c.discovery_at-o.ensures, c.at-x0.ensures)
