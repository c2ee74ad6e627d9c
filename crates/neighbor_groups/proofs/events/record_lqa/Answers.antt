-- The numbers read, the call made, and its answer said.
use Rattle.neighbor_groups.specs.Events.{record_lqa_call}
use Rattle.neighbor_groups.proofs.events.record_lqa.Goals as goal

pub returns : goal.returns
unfolding record_lqa_call
returns c = rw (c.changed.ensures, c.record_lqa.ensures, c.byte.ensures, c.nwk.ensures)
