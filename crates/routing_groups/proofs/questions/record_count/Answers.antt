-- The state is asked, and the answer said.
use Rattle.routing_groups.specs.Asked.{record_count_call}
use Rattle.routing_groups.proofs.questions.record_count.Goals as goal

pub returns : goal.returns
unfolding record_count_call
returns c = rw (c.count_answer.ensures, c.record_count-o.ensures)
