-- Each value is put after those before it.
use Rattle.decision_lines.proofs.header.push_frame_type.Goals as goal

pub returns : goal.returns
returns c = rw (c.push_byte.ensures, c.number.ensures)
