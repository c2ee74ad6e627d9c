-- The numbers of the device types.
use Rattle.neighbor_queries_lent.proofs.Words.{router-number}
use Rattle.neighbor_columns.specs.Codec.{link_of}
use native.Mathlib.Omega.{arith}
use Prim.Native.Nat.{◌/◌, ◌%◌}
use Rattle.neighbor_queries_lent.proofs.is_router.Goals as goal

pub returns : goal.returns
unfolding link_of
returns c = router-number ((c.args.word / 1125899906842624) % 4) (omega arith)
