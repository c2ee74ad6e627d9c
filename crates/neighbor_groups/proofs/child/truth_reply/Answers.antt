-- The answer is said beside the state that the call leaves.
use Rattle.neighbor_groups.proofs.child.truth_reply.Goals as goal

pub returns : goal.returns
returns c = rw c.truth_answer-said.ensures
