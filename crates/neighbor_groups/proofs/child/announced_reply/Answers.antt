-- The answer is said beside the state that the call leaves.
use Rattle.neighbor_groups.proofs.child.announced_reply.Goals as goal

pub returns : goal.returns
returns c = rw c.announced_answer-said.ensures
