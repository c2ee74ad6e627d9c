-- Each value is put after those before it.
use Rattle.neighbor_answers.proofs.link_given.Goals as goal

pub returns : goal.returns
returns c = rw (c.answered.ensures, c.push_byte.ensures, c.push_byte-k.ensures, c.push_eui64-m.ensures, c.present-n.ensures)
