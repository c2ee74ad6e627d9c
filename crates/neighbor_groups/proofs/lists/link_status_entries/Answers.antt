-- The numbers read, the call made, and its answer said.
use Rattle.neighbor_groups.specs.Lists.{link_status_entries_call}
use Rattle.neighbor_groups.proofs.lists.link_status_entries.Goals as goal

pub returns : goal.returns
unfolding link_status_entries_call
returns c = rw (c.statuses_answer.ensures, c.link_status_entries-said.ensures)
