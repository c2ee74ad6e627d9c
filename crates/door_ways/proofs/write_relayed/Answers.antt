-- Each place is written, the relays' by the writer that is lent them.
use Rattle.door_ways.proofs.write_relayed.Goals as goal

pub returns : goal.returns
returns c = λ z. record { kind = c.args.number; address = c.args.given; count = c.args.list.count; relays = c.write_relays.ensures z }
