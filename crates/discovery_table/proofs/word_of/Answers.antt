-- The fields of the discovery, put together as the layout says.
-- Assumes nothing.
use Rattle.discovery_table.specs.Codec.{discovery_word}
use borrow.Author.Rules.{rules}
use Rattle.discovery_table.proofs.word_of.Goals as goal

pub returns : goal.returns
unfolding discovery_word
returns c = search rules
