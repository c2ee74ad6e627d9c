-- The callees say it.
-- Assumes nothing.
use Rattle.store_words.proofs.reset.Goals as goal

pub returns : goal.returns
returns c = (rw (c.fresh-world.ensures, c.done-answer.ensures), c.clear.ensures)
