-- The fields of the word, one by one.
use Rattle.neighbor_columns.specs.Codec.{low_half}
use borrow.Author.Rules.{rules}
use Rattle.neighbor_columns.proofs.low_half.Goals as goal

pub returns : goal.returns
unfolding low_half
returns c = search rules
