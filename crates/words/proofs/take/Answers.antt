-- Each arm hands over what its function says.
-- Assumes nothing.
use Rattle.words.proofs.take.Goals as goal

pub returns-then-w-gt0 : goal.returns-then-w-gt0
returns-then-w-gt0 c = c.take_item.ensures c.args.shape.now

pub returns : goal.returns
returns c = c.take_letter.ensures
