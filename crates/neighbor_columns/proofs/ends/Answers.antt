-- The length and the zeros, each told by a test.
use Rattle.standard.proofs.Tells.{tells_both, tells-eq}
use Rattle.neighbor_columns.proofs.ends.Goals as goal

pub returns : goal.returns
returns g c = tells_both (tells-eq _ 64) c.zero_from-blank.ensures
