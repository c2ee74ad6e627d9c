-- The address is the key, and the ring is read from its word.
use lib.ListN.{get_or}
use Rattle.waiting_columns.proofs.entry_at.Goals as goal

pub returns : goal.returns
returns c = λ z. record { network_address = record { 0 = get_or c.args.keys.now c.args.i 0 }; lqas = c.of_word.ensures z }
