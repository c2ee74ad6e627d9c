-- Each value is read at its place.
use Rattle.decision_lines.proofs.header.route.Goals as goal

pub returns : goal.returns
returns c = λ z. record { relay_index = c.byte-relay_index.ensures z; relays = c.relays-relays.ensures z }
