-- The fields of the word, one by one.
use Rattle.neighbor_columns.specs.Codec.{high_half}
use borrow.Author.Rules.{rules}
use Rattle.neighbor_columns.proofs.high_half.Goals as goal

pub returns : goal.returns
unfolding high_half
returns c = search rules
