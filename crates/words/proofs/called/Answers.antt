-- The table of the program is the table of the definition.
-- Assumes nothing.
use Rattle.words.specs.Table.{table, routing_words, neighbour_words, added, entry}
use Rattle.words.specs.Text.{bytes}
use Rattle.words.proofs.called.Goals as goal

pub returns : goal.returns
unfolding table routing_words neighbour_words added entry bytes
returns c = c.called_in.ensures
