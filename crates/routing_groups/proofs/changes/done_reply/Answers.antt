-- The answer is said beside the state.
use Rattle.routing_groups.proofs.changes.done_reply.Goals as goal

pub returns : goal.returns
returns c = rw c.done_answer-answer.ensures
