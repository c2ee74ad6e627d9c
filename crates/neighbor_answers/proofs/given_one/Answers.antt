-- Each value is put after those before it.
use Rattle.neighbor_answers.proofs.given_one.Goals as goal

pub returns : goal.returns
returns c = rw (c.answered.ensures, c.push.ensures, c.present-n.ensures)
