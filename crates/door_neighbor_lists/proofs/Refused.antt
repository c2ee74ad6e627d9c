-- The numbers of a refused question keep the places; with `refused-asked` such a question writes nothing.
use Rattle.door.proofs.Lent.{Keeps}
use Rattle.door_lists.specs.Lists.{names_out, addresses_out, statuses_out}
use Rattle.door_lists.proofs.Refused.{list-keeps}
use Rattle.door_neighbor_lists.specs.Questions.{names_numbers, addresses_numbers, statuses_numbers}

pub names-keeps : Keeps names_numbers
names-keeps = list-keeps names_out

pub addresses-keeps : Keeps addresses_numbers
addresses-keeps = list-keeps addresses_out

pub statuses-keeps : Keeps statuses_numbers
statuses-keeps = list-keeps statuses_out
