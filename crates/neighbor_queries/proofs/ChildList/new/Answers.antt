-- An array of blanks is the list of nothing.
-- Assumes nothing.
use mathlib.Core.Path.{refl}
use Rattle.neighbor_queries.specs.Lists.{child_list}
use Rattle.neighbor_queries.proofs.ChildList.new.Goals as goal

pub returns : goal.returns
unfolding child_list
returns c = refl
