-- The numbers of the questions to neighbours that are answered with a list.
-- Document 01, "How each place should look": "a definition gives this paper's number and values for each of its cases".
-- Assumes nothing.
use Rattle.std.specs.Prelude.{ℕ, Result}
use Rattle.types.specs.declared.Refusal.{Refusal}
use Rattle.neighbor_queries.specs.declared.Eui64List.{Eui64List}
use Rattle.neighbor_queries.specs.declared.NwkList.{NwkList}
use Rattle.neighbor_queries.specs.declared.LinkStatusList.{LinkStatusList}
use Rattle.neighbors.specs.declared.Neighbors.{Neighbors}
use Rattle.neighbors.specs.Queries.{sleepy_children, end_device_children, expected_broadcast_relayers, link_status_entries}
use Rattle.door.specs.Lent.{Reading}
use Rattle.door_lists.specs.Answers.{list_numbers, children_numbers, ListsAsked}
use Rattle.door_lists.specs.Lists.{AddressesPlaces, names_out, addresses_out, AddressesRoom, ChildrenPlaces, ChildrenRoom, StatusesPlaces, statuses_out, StatusesRoom}

abbrev pub names_numbers : Reading (Result Eui64List Refusal) AddressesPlaces
names_numbers = list_numbers names_out

abbrev pub addresses_numbers : Reading (Result NwkList Refusal) AddressesPlaces
addresses_numbers = list_numbers addresses_out

abbrev pub statuses_numbers : Reading (Result LinkStatusList Refusal) StatusesPlaces
statuses_numbers = list_numbers statuses_out

-- what each question leaves
abbrev pub SleepyAsked : (Unit {0} → Neighbors) → ChildrenPlaces → ChildrenPlaces → ℕ → Type 0
SleepyAsked state old new r = ListsAsked ChildrenRoom children_numbers sleepy_children state old new r

abbrev pub EndDevicesAsked : (Unit {0} → Neighbors) → AddressesPlaces → AddressesPlaces → ℕ → Type 0
EndDevicesAsked state old new r = ListsAsked AddressesRoom names_numbers end_device_children state old new r

abbrev pub RelayersAsked : (Unit {0} → Neighbors) → AddressesPlaces → AddressesPlaces → ℕ → Type 0
RelayersAsked state old new r = ListsAsked AddressesRoom addresses_numbers expected_broadcast_relayers state old new r

abbrev pub StatusesAsked : (Unit {0} → Neighbors) → StatusesPlaces → StatusesPlaces → ℕ → Type 0
StatusesAsked state old new r = ListsAsked StatusesRoom statuses_numbers link_status_entries state old new r
