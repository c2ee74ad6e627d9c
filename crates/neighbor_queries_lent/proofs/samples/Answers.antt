-- Its field of the word.
use mathlib.Core.Path.{refl}
use Rattle.neighbor_columns.specs.Codec.{link_of}
use Rattle.ring_buffer.specs.Word.{ring_of}
use Rattle.neighbor_queries_lent.proofs.samples.Goals as goal

pub returns : goal.returns
unfolding link_of ring_of
returns c = refl
