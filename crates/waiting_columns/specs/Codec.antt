-- How a sender with its samples lies in numbers: its key is the network address, beside it stands the word of the ring of samples.
-- Assumes nothing.
use Rattle.std.specs.Prelude.{ℕ, ◌<◌, List, [], ◌∷◌, get_or}
use Rattle.ring_buffer.specs.Word as ring
use Rattle.waiting_table.specs.declared.WaitingEntry.{WaitingEntry}
use Rattle.waiting_table.specs.Entry.{waiting_key}

-- an entry's numbers: key and samples
abbrev pub waiting_numbers : WaitingEntry → List ℕ
waiting_numbers e = waiting_key e ∷ ring.ring_word e.lqas ∷ []

-- the entry in a key and a word of samples
abbrev pub waiting_in : ℕ → ℕ → WaitingEntry
waiting_in key word = record { network_address = record { 0 = key }; lqas = ring.ring_of word }

abbrev pub waiting_of : List ℕ → WaitingEntry
waiting_of v = waiting_in (get_or v 0 0) (get_or v 1 0)

-- numbers without a bit past the fields
abbrev pub Clean : List ℕ → Type 0
Clean v = get_or v 1 0 < ring.word_end

abbrev pub InRange : WaitingEntry → Type 0
InRange e = ring.InRange e.lqas
