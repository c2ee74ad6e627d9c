-- The variant decides, as the definition goes.
use mathlib.Core.Path.{sym, ap}
use Rattle.door_search.specs.Reply.{disposition_places}
use Rattle.door_search.proofs.reply.disposition_places.Goals as goal

pub returns-in-Drop : goal.returns-in-Drop
returns-in-Drop c = ap disposition_places (sym c.in-Drop.is)

pub returns-in-Established : goal.returns-in-Established
returns-in-Established c = ap disposition_places (sym c.in-Established.is)

pub returns-in-Relay : goal.returns-in-Relay
returns-in-Relay c = ap disposition_places (sym c.in-Relay.is)
