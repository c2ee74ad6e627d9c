-- The state is asked with what the numbers give, and the answer said.
use Rattle.routing_groups.specs.Recorded.{record_at_call}
use Rattle.routing_groups.proofs.records.record_at.Goals as goal

pub returns : goal.returns
unfolding record_at_call
returns c = rw (c.record_at_answer.ensures, c.record_at-o.ensures, c.at-place.ensures)
