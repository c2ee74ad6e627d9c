-- Each field is read from its place.
use Rattle.neighbor_values.specs.Reading.{waiting_entry_at}
use Rattle.neighbor_values.proofs.waiting_entry_at.Goals as goal

pub returns : goal.returns
unfolding waiting_entry_at
returns c = λ z. record { network_address = c.nwk-network_address.ensures z; lqas = c.samples_at-lqas.ensures z }
