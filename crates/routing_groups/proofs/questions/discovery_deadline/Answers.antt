-- The state is asked with what the numbers give, and the answer said.
use Rattle.routing_groups.specs.Asked.{discovery_deadline_call}
use Rattle.routing_groups.proofs.questions.discovery_deadline.Goals as goal

pub returns : goal.returns
unfolding discovery_deadline_call
returns c = rw (c.deadline_answer.ensures, c.discovery_deadline-o.ensures, c.at-x1.ensures, c.nwk-x0.ensures)
