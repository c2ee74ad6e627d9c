-- The state is put back beside the other.
use Rattle.calls.proofs.routed.Goals as goal

pub returns : goal.returns
returns c = c.routed.ensures
