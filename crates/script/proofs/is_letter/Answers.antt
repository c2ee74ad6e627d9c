-- The tests are the definition's.
-- Assumes nothing.
use Rattle.script.proofs.is_letter.Goals as goal

pub returns : goal.returns
returns c = rw c.is_digit.ensures
