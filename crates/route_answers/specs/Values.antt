-- The values that the routing calls answer with, as numbers.
-- Document 01, "How each place should look": "a definition gives this paper's number and values for each of its cases".
-- Assumes nothing.
use Rattle.std.specs.Prelude.{ℕ, List, [], ◌∷◌, map, Option, Some, None}
use Rattle.numbers.specs.Said.{flag_number}
use Rattle.standard.specs.declared.RouteEntry.{RouteEntry}
use Rattle.standard.specs.declared.DiscoveryEntry.{DiscoveryEntry}
use Rattle.standard.specs.declared.RelayList.{RelayList}
use Rattle.standard.specs.Numbers.{status_number}
use Rattle.relay_store.specs.Store.{number, relays_of}
use Rattle.route_calls.specs.declared.Checked.{Checked}
use Rattle.route_calls.specs.declared.Checked.TheVariants as checked
use Rattle.standard.specs.declared.Status.{Status}

-- a route: destination, status, no route cache, many to one, record required, expired, hop, cost, total and recent use
abbrev pub route_numbers : RouteEntry → List ℕ
route_numbers e =
    e.destination.0
    ∷ status_number e.status
    ∷ flag_number e.no_route_cache
    ∷ flag_number e.many_to_one
    ∷ flag_number e.route_record_required
    ∷ flag_number e.expired
    ∷ e.next_hop_address.0
    ∷ e.path_cost
    ∷ e.total_usage_count
    ∷ e.recent_activity
    ∷ []

-- a discovery: source, id, sender, forward and residual cost, when it is over, destination
abbrev pub discovery_numbers : DiscoveryEntry → List ℕ
discovery_numbers e =
    e.source_address.0
    ∷ e.route_request_id
    ∷ e.sender_address.0
    ∷ e.forward_cost
    ∷ e.residual_cost
    ∷ e.expiration_time
    ∷ e.destination_address.0
    ∷ []

-- relays: how many, and their addresses
abbrev pub relay_numbers : RelayList → List ℕ
relay_numbers l = l.count ∷ map number (relays_of l)

-- 0 for none, else 1 and the value
abbrev pub status_numbers : Option Status → List ℕ
status_numbers None = 0 ∷ []
status_numbers (Some s) = 1 ∷ status_number s ∷ []

abbrev pub deadline_numbers : Option ℕ → List ℕ
deadline_numbers None = 0 ∷ []
deadline_numbers (Some time) = 1 ∷ time ∷ []

abbrev pub route_looked_numbers : Option RouteEntry → List ℕ
route_looked_numbers None = 0 ∷ []
route_looked_numbers (Some e) = 1 ∷ route_numbers e

abbrev pub discovery_looked_numbers : Option DiscoveryEntry → List ℕ
discovery_looked_numbers None = 0 ∷ []
discovery_looked_numbers (Some e) = 1 ∷ discovery_numbers e

-- sound 0; an Active route with hop 0xFFFF 1 and its destination; an orphan 2 and its destination
abbrev pub check_numbers : Checked → List ℕ
check_numbers checked.Sound = 0 ∷ []
check_numbers (checked.UnknownHop d) = 1 ∷ d.0 ∷ []
check_numbers (checked.Orphan d) = 2 ∷ d.0 ∷ []
