-- The answer is said beside the state.
use Rattle.routing_groups.proofs.changes.reply_reply.Goals as goal

pub returns : goal.returns
returns c = rw c.reply_answer-answer.ensures
