-- The smaller of the number and the last picks from the list of all.
use Rattle.decision_lines.proofs.arguments.kind.Goals as goal

pub returns : goal.returns
returns c = rw c.min-i.ensures
