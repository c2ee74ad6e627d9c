-- The fields of the word, one by one.
use Rattle.neighbor_columns.specs.Codec.{counts_of}
use borrow.Author.Rules.{rules}
use Rattle.neighbor_columns.proofs.counts_of.Goals as goal

pub returns : goal.returns
unfolding counts_of
returns c = search rules
