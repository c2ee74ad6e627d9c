-- Each value is put after those before it.
use Rattle.decision_lines.proofs.header.push_control.Goals as goal

pub returns : goal.returns
returns c = rw (c.push_byte.ensures, c.push_flag-i.ensures, c.push_flag-h.ensures, c.push_flag-g.ensures, c.push_flag-f.ensures, c.push_flag-e.ensures, c.push_flag-d.ensures, c.push_discovery-c.ensures, c.push_byte-b.ensures, c.push_frame_type-a.ensures)
