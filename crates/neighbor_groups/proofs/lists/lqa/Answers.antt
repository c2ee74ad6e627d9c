-- The numbers read, the call made, and its answer said.
use Rattle.neighbor_groups.specs.Lists.{lqa_call}
use Rattle.neighbor_groups.proofs.lists.lqa.Goals as goal

pub returns : goal.returns
unfolding lqa_call
returns c = rw (c.quality_answer.ensures, c.entry_of-said.ensures, c.eui64.ensures)
