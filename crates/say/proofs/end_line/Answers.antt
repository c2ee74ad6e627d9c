-- The word `end`, and no number.
-- Assumes nothing.
use Rattle.words.specs.Text.{bytes}
use Rattle.say.proofs.end_line.Goals as goal

pub returns : goal.returns
unfolding bytes
returns c = c.put_line.ensures
