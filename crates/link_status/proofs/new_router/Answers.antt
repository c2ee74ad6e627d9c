-- Field by field, as the definition says.
-- Assumes nothing.
use mathlib.Core.Path.{refl}
use Rattle.link_status.specs.Digest.{new_router}
use Rattle.link_status.proofs.new_router.Goals as goal

pub returns : goal.returns
unfolding new_router
returns c = refl
