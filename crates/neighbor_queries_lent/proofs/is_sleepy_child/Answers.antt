-- The receiver's bit and the relationship.
use Rattle.neighbor_columns.specs.Codec.{link_of}
use Rattle.neighbor_queries_lent.proofs.is_sleepy_child.Goals as goal

pub returns : goal.returns
unfolding link_of
returns c = rw c.is_child.ensures
