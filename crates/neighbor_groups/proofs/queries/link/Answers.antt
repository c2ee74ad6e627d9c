-- The numbers read, the call made, and its answer said.
use Rattle.neighbor_groups.specs.Queries.{link_call}
use Rattle.neighbor_groups.proofs.queries.link.Goals as goal

pub returns : goal.returns
unfolding link_call
returns c = rw (c.link_answer.ensures, c.link-said.ensures, c.nwk.ensures)
