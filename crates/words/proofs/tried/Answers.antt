-- The one test is the definition's.
-- Assumes nothing.
use Rattle.words.specs.Words.{tried}
use Rattle.words.proofs.tried.Goals as goal

pub returns-then-start : goal.returns-then-start
unfolding tried
returns-then-start c = rw c.if-start.true c.past.ensures

pub returns-else-start : goal.returns-else-start
unfolding tried
returns-else-start c = rw c.if-start.false
