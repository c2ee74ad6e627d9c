-- The answer is said beside the state.
use Rattle.routing_groups.proofs.changes.told_reply.Goals as goal

pub returns : goal.returns
returns c = rw c.told_answer-answer.ensures
