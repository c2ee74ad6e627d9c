-- Each value is put after those before it.
use Rattle.neighbor_values.proofs.push_relationship.Goals as goal

pub returns : goal.returns
returns c = rw (c.push_byte.ensures, c.number.ensures)
