-- The state is asked, and the answer said.
use Rattle.routing_groups.specs.Asked.{route_count_call}
use Rattle.routing_groups.proofs.questions.route_count.Goals as goal

pub returns : goal.returns
unfolding route_count_call
returns c = rw (c.count_answer.ensures, c.route_count-o.ensures)
