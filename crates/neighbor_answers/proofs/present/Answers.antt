-- Each value is put after those before it.
use Rattle.neighbor_answers.proofs.present.Goals as goal

pub returns : goal.returns
returns c = rw (c.push.ensures, c.none-n.ensures)
