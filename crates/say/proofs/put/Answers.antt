-- The byte has a place or has none.
-- Assumes nothing.
use Rattle.say.proofs.Pages.{placed, left_out}
use Rattle.say.proofs.put.Goals as goal

pub returns-then-at-out : goal.returns-then-at-out
returns-then-at-out c = placed c.args.out.now c.args.at c.args.b c.if-at-out.true

pub returns : goal.returns
returns c = left_out c.args.out.now c.args.at c.args.b c.if-at-out.false
