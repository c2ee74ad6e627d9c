-- The state is asked, and the answer said.
use Rattle.routing_groups.specs.Asked.{check_call}
use Rattle.routing_groups.proofs.questions.check.Goals as goal

pub returns : goal.returns
unfolding check_call
returns c = rw (c.check_answer.ensures, c.check-o.ensures)
