-- The numbers of answers that many of the neighbours' calls give. In a call that is answered a place that the answer does not use is 0.
-- Document 01, "How each place should look": "a definition gives this paper's number and values for each of its cases".
-- Assumes nothing.
use Rattle.std.specs.Prelude.{ℕ, Option, Some, None, Result, Ok, Err, Bool}
use Rattle.types.specs.Refusal.{refusal_number}
use Rattle.numbers.specs.Said.{flag_number}
use Rattle.door.specs.Lent.{Reading}
use Rattle.door_neighbors.specs.declared.NamePlaces.{NamePlaces}
use Rattle.door_neighbors.specs.declared.AddressPlaces.{AddressPlaces}
use Rattle.types.specs.declared.Nwk.{Nwk}
use Rattle.types.specs.declared.Eui64.{Eui64}
use Rattle.types.specs.declared.Refusal.{Refusal}

-- a call that is done says no more
abbrev pub done_status : Result Unit Refusal → ℕ
done_status (Ok tt) = 0
done_status (Err why) = refusal_number why

abbrev pub done_numbers : Reading (Result Unit Refusal) (Unit {0})
done_numbers = record { status = done_status; places = λ answer old. old }

-- yes or no
abbrev pub truth_status : Result Bool Refusal → ℕ
truth_status (Ok b) = 0
truth_status (Err why) = refusal_number why

abbrev pub truth_place : Result Bool Refusal → ℕ → ℕ
truth_place (Ok b) old = flag_number b
truth_place (Err why) old = old

abbrev pub truth_numbers : Reading (Result Bool Refusal) ℕ
truth_numbers = record { status = truth_status; places = truth_place }

-- whether there is an extended address, and the address
abbrev pub name_at : ℕ → ℕ → NamePlaces
name_at found eui64 = record { found = found; eui64 = eui64 }

abbrev pub name_status : Result (Option Eui64) Refusal → ℕ
name_status (Ok (Some x)) = 0
name_status (Ok None) = 0
name_status (Err why) = refusal_number why

abbrev pub name_places : Result (Option Eui64) Refusal → NamePlaces → NamePlaces
name_places (Ok (Some x)) old = name_at 1 x.0
name_places (Ok None) old = name_at 0 0
name_places (Err why) old = old

abbrev pub name_numbers : Reading (Result (Option Eui64) Refusal) NamePlaces
name_numbers = record { status = name_status; places = name_places }

-- whether there is a network address, and the address
abbrev pub address_at : ℕ → ℕ → AddressPlaces
address_at found nwk = record { found = found; nwk = nwk }

abbrev pub address_status : Result (Option Nwk) Refusal → ℕ
address_status (Ok (Some x)) = 0
address_status (Ok None) = 0
address_status (Err why) = refusal_number why

abbrev pub address_places : Result (Option Nwk) Refusal → AddressPlaces → AddressPlaces
address_places (Ok (Some x)) old = address_at 1 x.0
address_places (Ok None) old = address_at 0 0
address_places (Err why) old = old

abbrev pub address_numbers : Reading (Result (Option Nwk) Refusal) AddressPlaces
address_numbers = record { status = address_status; places = address_places }
