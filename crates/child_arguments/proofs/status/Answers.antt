-- Each value is read at its place.
use Rattle.child_arguments.proofs.status.Goals as goal

pub returns : goal.returns
returns c = λ z. record { address = c.nwk-address.ensures z; incoming_cost = c.byte-incoming_cost.ensures z; outgoing_cost = c.byte-outgoing_cost.ensures z }
