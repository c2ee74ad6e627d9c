-- The call is made with what the numbers give, and its outcome said.
use mathlib.Core.Path.{◌∙◌}
use Rattle.routing_groups.specs.Changed.{begin_discovery_call}
use Rattle.routing_groups.proofs.changes.begin_discovery.Goals as goal

pub returns : goal.returns
unfolding begin_discovery_call
returns c = c.begin_reply.ensures ∙ rw (c.begin_discovery-o.ensures, c.at-x3.ensures, c.at-x2.ensures, c.nwk-x1.ensures, c.nwk-x0.ensures)
