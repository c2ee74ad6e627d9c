-- The counter after the sum, and every other field as it was.
use Rattle.neighbor_changes_lent.proofs.sent.Goals as goal

pub returns : goal.returns
returns c = rw c.saturating_add.ensures
