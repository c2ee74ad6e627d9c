-- The numbers read, the call made, and its answer said.
use Rattle.neighbor_groups.specs.Child.{on_link_status_call}
use Rattle.neighbor_groups.proofs.child.on_link_status.Goals as goal

pub returns : goal.returns
unfolding on_link_status_call
returns c = rw (c.nwk_reply.ensures, c.on_link_status.ensures, c.command-command.ensures, c.at-now.ensures, c.byte-lqi.ensures, c.nwk-nwk.ensures, c.eui64-name.ensures, c.nwk-own.ensures)
