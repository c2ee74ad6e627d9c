-- The header gets the route, and the hop is what stands at the last place.
-- Assumes nothing.
use mathlib.Core.Path.{◌∙◌}
use Rattle.next_hop.proofs.outcome.by_source_route.Goals as goal

pub returns : goal.returns
returns c = c.hop.ensures ∙ rw c.with_source_route.ensures
