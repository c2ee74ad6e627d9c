-- The device type and the relationship are those of their numbers.
use lib.Dec.{eqb}
use Rattle.door_children.proofs.child_of.Goals as goal

pub returns : goal.returns
returns c = λ z. record { eui64 = record { 0 = c.args.eui64 }; network_address = record { 0 = c.args.network_address }; device_type = c.device_type_of-kind.ensures z; rx_on_when_idle = eqb c.args.rx_on_when_idle 1; device_timeout = c.args.device_timeout; relationship = c.relationship_of-relation.ensures z }
