-- Each value is put after those before it.
use Rattle.neighbor_values.proofs.push_name.Goals as goal

pub returns : goal.returns
returns c = rw (c.push_byte.ensures, c.push_relationship-i.ensures, c.push-h.ensures, c.push-g.ensures, c.push_short-f.ensures, c.push_flag-d.ensures, c.push_device_type-c.ensures, c.push_nwk-b.ensures, c.push_eui64-a.ensures)
