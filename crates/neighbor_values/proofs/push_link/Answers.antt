-- Each value is put after those before it.
use Rattle.neighbor_values.proofs.push_link.Goals as goal

pub returns : goal.returns
returns c = rw (c.push_counter.ensures, c.push_counter-g.ensures, c.push_flag-f.ensures, c.push_counter-d.ensures, c.push_counter-c.ensures, c.push-b.ensures, c.push_byte-a.ensures)
