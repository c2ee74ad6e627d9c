-- An array of blanks is the list of nothing.
-- Assumes nothing.
use mathlib.Core.Path.{refl}
use Rattle.neighbor_queries.specs.Lists.{eui_list}
use Rattle.neighbor_queries.proofs.Eui64List.new.Goals as goal

pub returns : goal.returns
unfolding eui_list
returns c = refl
