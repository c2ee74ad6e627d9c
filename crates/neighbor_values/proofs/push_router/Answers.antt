-- Each value is put after those before it.
use Rattle.neighbor_values.proofs.push_router.Goals as goal

pub returns : goal.returns
returns c = rw (c.push_byte.ensures, c.push_byte-f.ensures, c.push_byte-d.ensures, c.push_byte-c.ensures, c.push_byte-b.ensures, c.push-a.ensures)
