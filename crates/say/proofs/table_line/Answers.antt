-- The first number is the word's, and the others follow.
-- Assumes nothing.
use Rattle.say.specs.Text.{table_line}
use Rattle.say.proofs.table_line.Goals as goal

pub returns : goal.returns
unfolding table_line
returns c = c.put_entry.ensures
