-- Each value is put after those before it.
use Rattle.neighbor_values.proofs.push_status.Goals as goal

pub returns : goal.returns
returns c = rw (c.push_byte.ensures, c.push_byte-k.ensures, c.push_nwk-m.ensures)
