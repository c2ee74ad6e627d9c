-- Field by field.
use Rattle.route_table.specs.Codec.{route_in}
use Rattle.route_table.proofs.entry.Goals as goal

pub returns : goal.returns
unfolding route_in
returns c = rw c.status_of-status.ensures
