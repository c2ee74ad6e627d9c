-- Each field is its digit of the key or the word, as the layout says.
-- Assumes nothing.
use Rattle.discovery_table.specs.Codec.{discovery_in}
use borrow.Author.Rules.{rules}
use Rattle.discovery_table.proofs.entry.Goals as goal

pub returns : goal.returns
unfolding discovery_in
returns c = search rules
