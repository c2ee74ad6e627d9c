-- The word is the sum of its halves, and the lower is below its end.
use native.Mathlib.Omega.{arith}
use mathlib.Core.Path.{refl}
use Rattle.neighbor_columns.specs.Codec.{pair_word}
use Rattle.neighbor_columns.proofs.pair_word.Goals as goal

pub returns : goal.returns
unfolding pair_word
returns c = (refl, omega arith)
