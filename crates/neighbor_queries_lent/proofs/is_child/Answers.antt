-- The numbers of the relationships that are a child's.
use Prim.Native.Nat.{◌/◌}
use Rattle.neighbor_queries_lent.proofs.Words.{child-number}
use Rattle.neighbor_columns.specs.Codec.{link_of}
use Rattle.neighbor_queries_lent.proofs.is_child.Goals as goal

pub returns : goal.returns
unfolding link_of
returns c = child-number (c.args.word / 4503599627370496)
