-- The state is asked, and the answer said.
use Rattle.routing_groups.specs.Asked.{discovery_count_call}
use Rattle.routing_groups.proofs.questions.discovery_count.Goals as goal

pub returns : goal.returns
unfolding discovery_count_call
returns c = rw (c.count_answer.ensures, c.discovery_count-o.ensures)
