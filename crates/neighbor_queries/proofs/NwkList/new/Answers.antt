-- An array of blanks is the list of nothing.
-- Assumes nothing.
use mathlib.Core.Path.{refl}
use Rattle.neighbor_queries.specs.Lists.{nwk_list}
use Rattle.neighbor_queries.proofs.NwkList.new.Goals as goal

pub returns : goal.returns
unfolding nwk_list
returns c = refl
