-- The rule of a route request, on tables whose expiry is done.
-- Document 01, "Route rules", "Route request"; 05-3474 section 3.6.4.5.1 (receipt of a route request).
-- Assumes nothing.
use Rattle.std.specs.Prelude.{ℕ, Bool, true, false, cond, ltb, Option, Some, None}
use Rattle.types.specs.declared.Nwk.{Nwk}
use Rattle.standard.specs.declared.RouteEntry.{RouteEntry}
use Rattle.standard.specs.declared.DiscoveryEntry.{DiscoveryEntry}
use Rattle.standard.specs.declared.ManyToOne.{ManyToOne}
use Rattle.standard.specs.declared.ManyToOne.TheVariants.{NotManyToOne, SenderSupportsRouteRecordTable, SenderDoesntSupportRouteRecordTable, Reserved}
use Rattle.standard.specs.Ordered.{lookup, put}
use Rattle.standard.specs.Route.{route_key, route_or, considered, considering}
use Rattle.standard.specs.Discovery.{pair_key, discovery_key}
use Rattle.standard.specs.Tables.{Tables}
use Rattle.standard.specs.declared.RouteUpdate.{RouteUpdate}

pub record Requested : Type 0 where
  pub accepted : Bool
  pub update : Option RouteUpdate
  pub tables : Tables

-- a discovery made by a request, or by a search of our own; the residual is not known yet
abbrev pub new_discovery : Nwk → ℕ → Nwk → ℕ → ℕ → Nwk → DiscoveryEntry
new_discovery source id sender forward expires destination = record {
  route_request_id = id;
  source_address = source;
  sender_address = sender;
  forward_cost = forward;
  residual_cost = 255;
  expiration_time = expires;
  destination_address = destination;
}

-- "forward cost and sender are stored (destination and expiration of a known pair stay)"
abbrev pub reached : Nwk → ℕ → DiscoveryEntry → DiscoveryEntry
reached sender cost d = record {
  route_request_id = d.route_request_id;
  source_address = d.source_address;
  sender_address = sender;
  forward_cost = cost;
  residual_cost = d.residual_cost;
  expiration_time = d.expiration_time;
  destination_address = d.destination_address;
}

-- the three flags of a concentrator's route, the last as given
abbrev pub concentrator : Bool → RouteEntry → RouteEntry
concentrator no_cache e = record {
  destination = e.destination;
  status = e.status;
  no_route_cache = no_cache;
  many_to_one = true;
  route_record_required = true;
  expired = e.expired;
  next_hop_address = e.next_hop_address;
  path_cost = e.path_cost;
  total_usage_count = e.total_usage_count;
  recent_activity = e.recent_activity;
}

-- "no-route-cache is set for value 2 and cleared for 1 and 3. Value 0 changes none of the three."
abbrev pub flagged : ManyToOne → RouteEntry → RouteEntry
flagged NotManyToOne e = e
flagged SenderSupportsRouteRecordTable e = concentrator false e
flagged SenderDoesntSupportRouteRecordTable e = concentrator true e
flagged Reserved e = concentrator false e

-- the discovery is stored, "then the originator's route considers the sender"
abbrev pub accepting : Nwk → Nwk → ℕ → ManyToOne → DiscoveryEntry → Tables → Requested
accepting originator sender cost many_to_one d t = record {
  accepted = true;
  update = considering sender cost (route_or originator t.routes);
  tables = record {
    routes = put route_key (flagged many_to_one (considered sender cost (route_or originator t.routes))) t.routes;
    discoveries = put discovery_key d t.discoveries;
  };
}

-- "A known pair with cost above its forward cost is not accepted and nothing else happens."
unfoldable pub request_to : Nwk → ℕ → Nwk → Nwk → ℕ → ManyToOne → ℕ → Tables → Option DiscoveryEntry → Requested
request_to originator id destination sender cost many_to_one expires t None =
    accepting originator sender cost many_to_one (new_discovery originator id sender cost expires destination) t
request_to originator id destination sender cost many_to_one expires t (Some d) =
    cond (ltb d.forward_cost cost)
    (record { accepted = false; update = None; tables = t })
    (accepting originator sender cost many_to_one (reached sender cost d) t)

-- a request of the search (originator, id) for a destination, heard from a sender at a cost; a new discovery expires at `expires`
unfoldable pub request : Nwk → ℕ → Nwk → Nwk → ℕ → ManyToOne → ℕ → Tables → Requested
request originator id destination sender cost many_to_one expires t =
    request_to originator id destination sender cost many_to_one expires t (lookup discovery_key (pair_key originator id) t.discoveries)
