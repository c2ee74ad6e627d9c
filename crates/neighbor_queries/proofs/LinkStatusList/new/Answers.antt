-- An array of blanks is the list of nothing.
-- Assumes nothing.
use mathlib.Core.Path.{refl}
use Rattle.neighbor_queries.specs.Lists.{status_list}
use Rattle.neighbor_queries.proofs.LinkStatusList.new.Goals as goal

pub returns : goal.returns
unfolding status_list
returns c = refl
