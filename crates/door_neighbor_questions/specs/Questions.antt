-- The numbers of what is asked of neighbours: a link, what a neighbour can do, a moment, and how many there are.
-- Document 01, "How each place should look": "a definition gives this paper's number and values for each of its cases".
-- Assumes nothing.
use Rattle.std.specs.Prelude.{ℕ, Option, Some, None, Result, Ok, Err}
use Rattle.types.specs.Refusal.{refusal_number}
use Rattle.numbers.specs.Said.{flag_number}
use Rattle.neighbor_table.specs.Entry.{device_type_number}
use Rattle.neighbor_queries.specs.declared.Capability.{Capability}
use Rattle.door.specs.Lent.{Reading}
use Rattle.door_neighbor_questions.specs.declared.LinkPlaces.{LinkPlaces}
use Rattle.door_neighbor_questions.specs.declared.CapabilityPlaces.{CapabilityPlaces}
use Rattle.door_neighbor_questions.specs.declared.MomentPlaces.{MomentPlaces}
use Rattle.types.specs.declared.Refusal.{Refusal}
use Rattle.neighbor_queries.specs.declared.NeighborLink.{NeighborLink}

-- whether there is a link, the extended address, the outgoing and the incoming cost
abbrev pub link_at : ℕ → ℕ → ℕ → ℕ → LinkPlaces
link_at found eui64 outgoing incoming = record { found = found; eui64 = eui64; outgoing_cost = outgoing; incoming_cost = incoming }

abbrev pub link_status : Result (Option NeighborLink) Refusal → ℕ
link_status (Ok (Some l)) = 0
link_status (Ok None) = 0
link_status (Err why) = refusal_number why

abbrev pub link_places : Result (Option NeighborLink) Refusal → LinkPlaces → LinkPlaces
link_places (Ok (Some l)) old = link_at 1 l.eui64.0 l.outgoing_cost l.incoming_cost
link_places (Ok None) old = link_at 0 0 0 0
link_places (Err why) old = old

abbrev pub link_numbers : Reading (Result (Option NeighborLink) Refusal) LinkPlaces
link_numbers = record { status = link_status; places = link_places }

-- whether there is such a neighbour, its device type, and whether it listens when idle
abbrev pub capability_at : ℕ → ℕ → ℕ → CapabilityPlaces
capability_at found kind listens = record { found = found; device_type = kind; rx_on_when_idle = listens }

abbrev pub capability_status : Result (Option Capability) Refusal → ℕ
capability_status (Ok (Some able)) = 0
capability_status (Ok None) = 0
capability_status (Err why) = refusal_number why

abbrev pub capability_places : Result (Option Capability) Refusal → CapabilityPlaces → CapabilityPlaces
capability_places (Ok (Some able)) old = capability_at 1 (device_type_number able.device_type) (flag_number able.rx_on_when_idle)
capability_places (Ok None) old = capability_at 0 0 0
capability_places (Err why) old = old

abbrev pub capability_numbers : Reading (Result (Option Capability) Refusal) CapabilityPlaces
capability_numbers = record { status = capability_status; places = capability_places }

-- whether there is a moment, and the moment
abbrev pub moment_at : ℕ → ℕ → MomentPlaces
moment_at found time = record { found = found; time = time }

abbrev pub moment_status : Result (Option ℕ) Refusal → ℕ
moment_status (Ok (Some time)) = 0
moment_status (Ok None) = 0
moment_status (Err why) = refusal_number why

abbrev pub moment_places : Result (Option ℕ) Refusal → MomentPlaces → MomentPlaces
moment_places (Ok (Some time)) old = moment_at 1 time
moment_places (Ok None) old = moment_at 0 0
moment_places (Err why) old = old

abbrev pub moment_numbers : Reading (Result (Option ℕ) Refusal) MomentPlaces
moment_numbers = record { status = moment_status; places = moment_places }

-- how many there are
abbrev pub count_status : Result ℕ Refusal → ℕ
count_status (Ok n) = 0
count_status (Err why) = refusal_number why

abbrev pub count_place : Result ℕ Refusal → ℕ → ℕ
count_place (Ok n) old = n
count_place (Err why) old = old

abbrev pub count_numbers : Reading (Result ℕ Refusal) ℕ
count_numbers = record { status = count_status; places = count_place }
