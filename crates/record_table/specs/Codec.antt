-- How a route record's entry lies in numbers: its key is the destination, beside it stands how many relays it has.
-- Assumes nothing.
use Rattle.std.specs.Prelude.{ℕ, ◌<◌, List, [], ◌∷◌, get_or}
use Rattle.standard.specs.declared.RecordEntry.{RecordEntry}
use Rattle.standard.specs.Record.{record_key}
use Rattle.standard.specs.Route.{nwk}

-- "each of at most 32 relays"
abbrev pub length_end : ℕ
length_end = 33

-- an entry's numbers: key and number of relays
abbrev pub record_numbers : RecordEntry → List ℕ
record_numbers e = record_key e ∷ e.relay_count ∷ []

-- the entry in a key and a number of relays
abbrev pub record_in : ℕ → ℕ → RecordEntry
record_in key length = record { destination = nwk key; relay_count = length }

abbrev pub record_of : List ℕ → RecordEntry
record_of v = record_in (get_or v 0 0) (get_or v 1 0)

abbrev pub Clean : List ℕ → Type 0
Clean v = get_or v 1 0 < length_end

abbrev pub InRange : RecordEntry → Type 0
InRange e = e.relay_count < length_end
