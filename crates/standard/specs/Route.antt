-- A row of the route table, and what a candidate does to it.
-- Document 01, "Route rules": "Accepting a candidate"; 05-3474 section 3.6.4.5.3 for the suitability rule.
-- Assumes nothing.
use Rattle.std.specs.Prelude.{ℕ, ◌+◌, ◌-◌, min, Bool, true, false, cond, not, ◌&&◌, ◌||◌, List, ltb, eqb, Option, Some, None, unwrap_or}
use Rattle.types.specs.declared.Nwk.{Nwk}
use Rattle.standard.specs.declared.Status.{Status}
use Rattle.standard.specs.declared.Status.TheVariants.{Active, DiscoveryUnderway, DiscoveryFailed, Inactive}
use Rattle.standard.specs.declared.RouteEntry.{RouteEntry}
use Rattle.standard.specs.Ordered.{lookup}
use Rattle.standard.specs.declared.RouteUpdate.{RouteUpdate}

abbrev pub nwk : ℕ → Nwk
nwk n = record { 0 = n }

-- the address that stands for a hop not known
abbrev pub unknown_hop : Nwk
unknown_hop = nwk 0xFFFF

abbrev pub is_active : Status → Bool
is_active Active = true
is_active DiscoveryUnderway = false
is_active DiscoveryFailed = false
is_active Inactive = false

abbrev pub is_underway : Status → Bool
is_underway Active = false
is_underway DiscoveryUnderway = true
is_underway DiscoveryFailed = false
is_underway Inactive = false

-- routes are ordered by destination
abbrev pub route_key : RouteEntry → ℕ
route_key e = e.destination.0

-- a route that is made new: no flag set, cost 255, not used yet
abbrev pub new_route : Nwk → Status → Nwk → RouteEntry
new_route d s hop = record {
  destination = d;
  status = s;
  no_route_cache = false;
  many_to_one = false;
  route_record_required = false;
  expired = false;
  next_hop_address = hop;
  path_cost = 255;
  total_usage_count = 0;
  recent_activity = 0;
}

-- the route to d, or the one that would be made for it
abbrev pub route_or : Nwk → List RouteEntry → RouteEntry
route_or d xs = unwrap_or (lookup route_key d.0 xs) (new_route d Inactive unknown_hop)

abbrev pub with_status : Status → RouteEntry → RouteEntry
with_status s e = record {
  destination = e.destination;
  status = s;
  no_route_cache = e.no_route_cache;
  many_to_one = e.many_to_one;
  route_record_required = e.route_record_required;
  expired = e.expired;
  next_hop_address = e.next_hop_address;
  path_cost = e.path_cost;
  total_usage_count = e.total_usage_count;
  recent_activity = e.recent_activity;
}

-- the route, Active by a hop at a cost
abbrev pub via : Nwk → ℕ → RouteEntry → RouteEntry
via hop cost e = record {
  destination = e.destination;
  status = Active;
  no_route_cache = e.no_route_cache;
  many_to_one = e.many_to_one;
  route_record_required = e.route_record_required;
  expired = e.expired;
  next_hop_address = hop;
  path_cost = cost;
  total_usage_count = e.total_usage_count;
  recent_activity = e.recent_activity;
}

-- "an Active route is replaced only by a strictly lower cost; any other status is replaced always"
abbrev pub suits : ℕ → RouteEntry → Bool
suits cost e = not (is_active e.status) || ltb cost e.path_cost

unfoldable pub considered : Nwk → ℕ → RouteEntry → RouteEntry
considered hop cost e = cond (suits cost e) (via hop cost e) e

-- "an update is reported only if the route was not Active or its hop changed"
unfoldable pub news : Nwk → ℕ → RouteEntry → Option RouteUpdate
news hop cost e =
    cond (is_active e.status && eqb e.next_hop_address.0 hop.0) None
    (Some (record { destination = e.destination; next_hop = hop; path_cost = cost }))

-- what a candidate reports
unfoldable pub considering : Nwk → ℕ → RouteEntry → Option RouteUpdate
considering hop cost e = cond (suits cost e) (news hop cost e) None

-- "Usage counts stop at 255 and 4,294,967,295"
abbrev pub used : RouteEntry → RouteEntry
used e = record {
  destination = e.destination;
  status = e.status;
  no_route_cache = e.no_route_cache;
  many_to_one = e.many_to_one;
  route_record_required = e.route_record_required;
  expired = e.expired;
  next_hop_address = e.next_hop_address;
  path_cost = e.path_cost;
  total_usage_count = min (e.total_usage_count + 1) 4294967295;
  recent_activity = min (e.recent_activity + 1) 255;
}

-- "once every nwkLinkStatusPeriod" (the Rust's words) an Active route's recent activity goes down by one, and stops at 0
abbrev pub decayed : RouteEntry → RouteEntry
decayed e =
    cond (is_active e.status)
    (record {
      destination = e.destination;
      status = e.status;
      no_route_cache = e.no_route_cache;
      many_to_one = e.many_to_one;
      route_record_required = e.route_record_required;
      expired = e.expired;
      next_hop_address = e.next_hop_address;
      path_cost = e.path_cost;
      total_usage_count = e.total_usage_count;
      recent_activity = e.recent_activity - 1;
    })
    e

-- an Active route by a hop that is lost is Inactive
abbrev pub unlinked : Nwk → RouteEntry → RouteEntry
unlinked hop e = cond (is_active e.status && eqb e.next_hop_address.0 hop.0) (with_status Inactive e) e

-- 05-3474, 3.6.4.3.2; in the Rust's words "relaying a source-routed frame proves the concentrator .. holds a route record", unless it keeps no route cache
abbrev pub record_known : RouteEntry → RouteEntry
record_known e =
    cond e.no_route_cache e
    (record {
      destination = e.destination;
      status = e.status;
      no_route_cache = e.no_route_cache;
      many_to_one = e.many_to_one;
      route_record_required = false;
      expired = e.expired;
      next_hop_address = e.next_hop_address;
      path_cost = e.path_cost;
      total_usage_count = e.total_usage_count;
      recent_activity = e.recent_activity;
    })
