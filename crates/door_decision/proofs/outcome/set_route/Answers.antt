-- The fields are written as a source route has them, the places by the writer that is lent them.
use Rattle.door_decision.proofs.Routed.{routed}
use Rattle.door_decision.proofs.outcome.set_route.Goals as goal

pub returns : goal.returns
returns c = routed c.args.from.now c.args.count c.requires.0 c.requires.1 c.requires.2 _ c.copy_relays.ensures
