-- The four parts are put in turn.
use Rattle.neighbor_values.proofs.push_neighbor.Goals as goal

pub returns : goal.returns
returns c = rw (c.push_router.ensures, c.push_link-linked.ensures, c.push_samples-sampled.ensures, c.push_name-named.ensures)
