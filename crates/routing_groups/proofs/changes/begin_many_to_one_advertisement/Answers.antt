-- The call is made with what the numbers give, and its outcome said.
use mathlib.Core.Path.{◌∙◌}
use Rattle.routing_groups.specs.Changed.{begin_many_to_one_advertisement_call}
use Rattle.routing_groups.proofs.changes.begin_many_to_one_advertisement.Goals as goal

pub returns : goal.returns
unfolding begin_many_to_one_advertisement_call
returns c = c.begin_reply.ensures ∙ rw (c.begin_many_to_one_advertisement-o.ensures, c.at-x2.ensures, c.at-x1.ensures, c.nwk-x0.ensures)
