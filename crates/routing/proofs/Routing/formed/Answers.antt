-- The columns of the state, lent to their test.
use Rattle.routing.proofs.State.{columns-told}
use Rattle.routing.proofs.Routing.formed.Goals as goal

pub returns : goal.returns
returns c = columns-told c.args.self.now c.columns_formed.ensures
