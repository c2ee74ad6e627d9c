-- The state is asked with what the numbers give, and the answer said.
use Rattle.routing_groups.specs.Asked.{next_hop_call}
use Rattle.routing_groups.proofs.questions.next_hop.Goals as goal

pub returns : goal.returns
unfolding next_hop_call
returns c = rw (c.hop_answer.ensures, c.next_hop-o.ensures, c.nwk-x0.ensures)
