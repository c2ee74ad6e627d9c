-- The one test is the definition's.
-- Assumes nothing.
use mathlib.Core.Path.{sym, ◌∙◌}
use Rattle.route_calls.proofs.fault_of.Goals as goal

pub returns-then-lacks_hop : goal.returns-then-lacks_hop
returns-then-lacks_hop c = rw (sym c.lacks_hop.ensures ∙ c.if-lacks_hop.true)

pub returns : goal.returns
returns c = rw (sym c.lacks_hop.ensures ∙ c.if-lacks_hop.false)
