-- The numbers read, the call made, and its answer said.
use Rattle.neighbor_groups.specs.Child.{set_child_timeout_call}
use Rattle.neighbor_groups.proofs.child.set_child_timeout.Goals as goal

pub returns : goal.returns
unfolding set_child_timeout_call
returns c = rw (c.truth_reply.ensures, c.set_child_timeout.ensures, c.at-now.ensures, c.short-configuration.ensures, c.at-timeout.ensures, c.nwk-nwk.ensures)
