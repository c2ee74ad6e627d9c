-- The list beside a refusal names no relay.
-- Assumes nothing.
use Rattle.routing.proofs.records.refuse_way.Goals as goal

pub returns : goal.returns
returns c = rw c.no_relays-relays.ensures
