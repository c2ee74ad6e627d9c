-- The answer is said beside the state that the call leaves.
use Rattle.neighbor_groups.proofs.events.changed.Goals as goal

pub returns : goal.returns
returns c = rw c.done_answer-said.ensures
