-- Each value is put after those before it.
use Rattle.neighbor_values.proofs.push_child.Goals as goal

pub returns : goal.returns
returns c = rw (c.push_nwk.ensures, c.push_eui64-m.ensures)
