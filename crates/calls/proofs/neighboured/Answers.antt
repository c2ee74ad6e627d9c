-- The state is put back beside the other.
use Rattle.calls.proofs.neighboured.Goals as goal

pub returns : goal.returns
returns c = c.neighboured.ensures
