-- The answer is said beside the state.
use Rattle.routing_groups.proofs.changes.begin_reply.Goals as goal

pub returns : goal.returns
returns c = rw c.begin_answer-answer.ensures
