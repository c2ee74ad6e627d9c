-- The answer is said beside the state that the call leaves.
use Rattle.neighbor_groups.proofs.child.removal_reply.Goals as goal

pub returns : goal.returns
returns c = rw c.removed_answer-said.ensures
