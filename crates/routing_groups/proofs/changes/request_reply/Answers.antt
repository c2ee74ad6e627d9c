-- The answer is said beside the state.
use Rattle.routing_groups.proofs.changes.request_reply.Goals as goal

pub returns : goal.returns
returns c = rw c.request_answer-answer.ensures
