-- The answer is said beside the state.
use Rattle.routing_groups.proofs.records.record_reply.Goals as goal

pub returns : goal.returns
returns c = rw c.record_answer-answer.ensures
