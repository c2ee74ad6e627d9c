-- Its field of the word.
use mathlib.Core.Path.{refl}
use Rattle.neighbor_columns.specs.Codec.{link_of}
use Rattle.neighbor_queries_lent.proofs.outgoing_cost.Goals as goal

pub returns : goal.returns
unfolding link_of
returns c = refl
