-- How a route lies in numbers: its key is the destination, its word holds hop, cost, recent activity, status and flags, its usage count stands apart.
-- The word, from the lowest bit: hop 16, cost 8, recent activity 8, status 2, and a bit for each flag: below 2^38. No other place knows this layout.
-- Assumes nothing.
use Rattle.std.specs.Prelude.{ℕ, ◌+◌, ◌*◌, ◌/◌, ◌%◌, ◌<◌, cond, List, [], ◌∷◌, eqb, get_or}
use mir.Val.{bool_byte}
use Rattle.standard.specs.declared.Status.{Status}
use Rattle.standard.specs.declared.Status.TheVariants.{Active, DiscoveryUnderway, DiscoveryFailed, Inactive}
use Rattle.standard.specs.declared.RouteEntry.{RouteEntry}
use Rattle.standard.specs.Numbers.{status_number}
use Rattle.standard.specs.Route.{nwk, route_key}

abbrev pub status_of : ℕ → Status
status_of n = cond (eqb n 0) Active (cond (eqb n 1) DiscoveryUnderway (cond (eqb n 2) DiscoveryFailed Inactive))

-- fields into a word
unfoldable pub route_word : RouteEntry → ℕ
route_word e =
    e.next_hop_address.0
    + e.path_cost * 65536
    + e.recent_activity * 16777216
    + status_number e.status * 4294967296
    + bool_byte e.no_route_cache * 17179869184
    + bool_byte e.many_to_one * 34359738368
    + bool_byte e.route_record_required * 68719476736
    + bool_byte e.expired * 137438953472

-- every word is below it
abbrev pub word_end : ℕ
word_end = 274877906944

-- a route's numbers: key, word and usage count
abbrev pub route_numbers : RouteEntry → List ℕ
route_numbers e = route_key e ∷ route_word e ∷ e.total_usage_count ∷ []

-- the route in a key, a word and a usage count
unfoldable pub route_in : ℕ → ℕ → ℕ → RouteEntry
route_in key word usage = record {
  destination = nwk key;
  status = status_of ((word / 4294967296) % 4);
  no_route_cache = eqb ((word / 17179869184) % 2) 1;
  many_to_one = eqb ((word / 34359738368) % 2) 1;
  route_record_required = eqb ((word / 68719476736) % 2) 1;
  expired = eqb ((word / 137438953472) % 2) 1;
  next_hop_address = nwk (word % 65536);
  path_cost = (word / 65536) % 256;
  total_usage_count = usage;
  recent_activity = (word / 16777216) % 256;
}

abbrev pub route_of : List ℕ → RouteEntry
route_of v = route_in (get_or v 0 0) (get_or v 1 0) (get_or v 2 0)

-- numbers without a bit past the fields
abbrev pub Clean : List ℕ → Type 0
Clean v = get_or v 1 0 < word_end

-- a route whose numbers are within their fields, as every route of a program is
pub record InRange (e : RouteEntry) : Type 0 where
  pub hop : e.next_hop_address.0 < 65536
  pub cost : e.path_cost < 256
  pub recent : e.recent_activity < 256
