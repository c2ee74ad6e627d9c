-- The numbers of the route and of the discovery at a place: whether there is one, and its fields.
-- Document 01, "How each place should look": "a definition gives this paper's number and values for each of its cases".
-- Assumes nothing.
use Rattle.std.specs.Prelude.{ℕ, Option, Some, None, Result, Ok, Err}
use Rattle.types.specs.Refusal.{refusal_number}
use Rattle.numbers.specs.Said.{flag_number}
use Rattle.standard.specs.Numbers.{status_number}
use Rattle.door.specs.Lent.{Reading}
use Rattle.door_rows.specs.declared.RoutePlaces.{RoutePlaces}
use Rattle.door_rows.specs.declared.DiscoveryPlaces.{DiscoveryPlaces}
use Rattle.types.specs.declared.Refusal.{Refusal}
use Rattle.standard.specs.declared.RouteEntry.{RouteEntry}
use Rattle.standard.specs.declared.DiscoveryEntry.{DiscoveryEntry}

-- a route: destination, status, no route cache, many to one, record required, expired, hop, cost, total and recent use
abbrev pub route_at_places : ℕ → ℕ → ℕ → ℕ → ℕ → ℕ → ℕ → ℕ → ℕ → ℕ → ℕ → RoutePlaces
route_at_places found destination status cache many required expired hop cost total recent = record {
  found = found;
  destination = destination;
  status = status;
  no_route_cache = cache;
  many_to_one = many;
  route_record_required = required;
  expired = expired;
  next_hop = hop;
  path_cost = cost;
  total_usage_count = total;
  recent_activity = recent;
}

abbrev pub route_places : Option RouteEntry → RoutePlaces
route_places None = route_at_places 0 0 0 0 0 0 0 0 0 0 0
route_places (Some e) =
    route_at_places 1 e.destination.0 (status_number e.status) (flag_number e.no_route_cache) (flag_number e.many_to_one) (flag_number e.route_record_required) (flag_number e.expired) e.next_hop_address.0 e.path_cost e.total_usage_count e.recent_activity

abbrev pub route_said : Result (Option RouteEntry) Refusal → ℕ
route_said (Err why) = refusal_number why
route_said (Ok x) = 0

abbrev pub route_held : Result (Option RouteEntry) Refusal → RoutePlaces → RoutePlaces
route_held (Err why) old = old
route_held (Ok x) old = route_places x

abbrev pub route_numbers : Reading (Result (Option RouteEntry) Refusal) RoutePlaces
route_numbers = record { status = route_said; places = route_held }

-- a discovery: source, id, sender, forward and residual cost, when it is over, destination
abbrev pub discovery_at_places : ℕ → ℕ → ℕ → ℕ → ℕ → ℕ → ℕ → ℕ → DiscoveryPlaces
discovery_at_places found source id sender forward residual end destination = record {
  found = found;
  source_address = source;
  route_request_id = id;
  sender_address = sender;
  forward_cost = forward;
  residual_cost = residual;
  expiration_time = end;
  destination_address = destination;
}

abbrev pub discovery_places : Option DiscoveryEntry → DiscoveryPlaces
discovery_places None = discovery_at_places 0 0 0 0 0 0 0 0
discovery_places (Some e) =
    discovery_at_places 1 e.source_address.0 e.route_request_id e.sender_address.0 e.forward_cost e.residual_cost e.expiration_time e.destination_address.0

abbrev pub discovery_said : Result (Option DiscoveryEntry) Refusal → ℕ
discovery_said (Err why) = refusal_number why
discovery_said (Ok x) = 0

abbrev pub discovery_held : Result (Option DiscoveryEntry) Refusal → DiscoveryPlaces → DiscoveryPlaces
discovery_held (Err why) old = old
discovery_held (Ok x) old = discovery_places x

abbrev pub discovery_numbers : Reading (Result (Option DiscoveryEntry) Refusal) DiscoveryPlaces
discovery_numbers = record { status = discovery_said; places = discovery_held }
