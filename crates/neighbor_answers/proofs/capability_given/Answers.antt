-- Each value is put after those before it.
use Rattle.neighbor_answers.proofs.capability_given.Goals as goal

pub returns : goal.returns
returns c = rw (c.answered.ensures, c.push_flag.ensures, c.push_device_type-m.ensures, c.present-n.ensures)
