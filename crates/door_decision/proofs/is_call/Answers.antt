-- Each test tells what it tests, and so do all of them together.
use Rattle.standard.proofs.Tells.{tells-le, tells-eq, tells_both}
use Rattle.door_decision.proofs.is_call.Goals as goal

pub returns : goal.returns
returns c = tells_both (tells-le _ _) (tells_both (tells-le _ _) (tells_both (tells-le _ _) (tells_both (tells-le _ _) (tells_both (tells-le _ _) (tells_both (tells-le _ _) (tells-eq _ _))))))
