-- The numbers read, the call made, and its answer said.
use Rattle.neighbor_groups.specs.Child.{upsert_child_call}
use Rattle.neighbor_groups.proofs.child.upsert_child.Goals as goal

pub returns : goal.returns
unfolding upsert_child_call
returns c = rw (c.changed.ensures, c.upsert_child.ensures, c.at-now.ensures, c.child-child.ensures)
