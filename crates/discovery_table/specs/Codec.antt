-- How a discovery lies in numbers: its key is source and request id, its word holds sender, destination and the two costs, its end stands apart.
-- The word, from the lowest bit: sender 16, destination 16, forward cost 8, residual cost 8: below 2^48. No other place knows this layout.
-- Assumes nothing.
use Rattle.std.specs.Prelude.{ℕ, ◌+◌, ◌*◌, ◌/◌, ◌%◌, ◌<◌, List, [], ◌∷◌, get_or}
use Rattle.standard.specs.declared.DiscoveryEntry.{DiscoveryEntry}
use Rattle.standard.specs.Discovery.{discovery_key}
use Rattle.standard.specs.Route.{nwk}

-- fields into a word
unfoldable pub discovery_word : DiscoveryEntry → ℕ
discovery_word d =
    d.sender_address.0
    + d.destination_address.0 * 65536
    + d.forward_cost * 4294967296
    + d.residual_cost * 1099511627776

-- every word is below the first, and the key of every pair below the second
abbrev pub word_end : ℕ
word_end = 281474976710656

abbrev pub key_end : ℕ
key_end = 16777216

-- a discovery's numbers: key, word and end
abbrev pub discovery_numbers : DiscoveryEntry → List ℕ
discovery_numbers d = discovery_key d ∷ discovery_word d ∷ d.expiration_time ∷ []

-- the discovery in a key, a word and an end
unfoldable pub discovery_in : ℕ → ℕ → ℕ → DiscoveryEntry
discovery_in key word end = record {
  route_request_id = key % 256;
  source_address = nwk ((key / 256) % 65536);
  sender_address = nwk (word % 65536);
  forward_cost = (word / 4294967296) % 256;
  residual_cost = (word / 1099511627776) % 256;
  expiration_time = end;
  destination_address = nwk ((word / 65536) % 65536);
}

abbrev pub discovery_of : List ℕ → DiscoveryEntry
discovery_of v = discovery_in (get_or v 0 0) (get_or v 1 0) (get_or v 2 0)

-- numbers without a bit past the fields
pub record Clean (v : List ℕ) : Type 0 where
  pub key : get_or v 0 0 < key_end
  pub word : get_or v 1 0 < word_end

-- a discovery whose numbers are within their fields, as every discovery of a program is
pub record InRange (d : DiscoveryEntry) : Type 0 where
  pub source : d.source_address.0 < 65536
  pub id : d.route_request_id < 256
  pub sender : d.sender_address.0 < 65536
  pub destination : d.destination_address.0 < 65536
  pub forward : d.forward_cost < 256
  pub residual : d.residual_cost < 256
