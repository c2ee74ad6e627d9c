-- The tests are the definition's.
-- Assumes nothing.
use Rattle.words.specs.Shape.{within}
use Rattle.words.proofs.within.Goals as goal

pub returns : goal.returns
unfolding within
returns c = rw c.most.ensures
