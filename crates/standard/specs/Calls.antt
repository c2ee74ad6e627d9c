-- The calls that look at the routes alone, and the check of the tables: each as what it makes of the rows.
-- Document 01, "Route rules", "Refusal numbers" (1 and 6) and "Modules, leaves first" (the check).
-- Assumes nothing.
use Rattle.std.specs.Prelude.{ℕ, Bool, false, cond, not, ◌&&◌, ◌||◌, List, eqb, Option, Some, None, option_map}
use Rattle.types.specs.declared.Nwk.{Nwk}
use Rattle.standard.specs.declared.Status.{Status}
use Rattle.standard.specs.declared.Status.TheVariants.{Active, DiscoveryUnderway}
use Rattle.standard.specs.declared.RouteEntry.{RouteEntry}
use Rattle.standard.specs.declared.DiscoveryEntry.{DiscoveryEntry}
use Rattle.standard.specs.Discovery.{names}
use Rattle.standard.specs.Ordered.{lookup, put}
use Rattle.standard.specs.Query.{first, some_fits, is_there}
use Rattle.standard.specs.Rows.{put_back}
use Rattle.standard.specs.Route.{unknown_hop, is_active, is_underway, route_key, route_or, with_status}

-- a change of one route, on any status, if it is there: look-up and insert "have their usual map meaning"
unfoldable pub change_route : ℕ → (RouteEntry → RouteEntry) → List RouteEntry → List RouteEntry
change_route k change xs = put_back route_key change (lookup route_key k xs) xs

-- whether there is a route under k: what a removal reports
unfoldable pub has_route : ℕ → List RouteEntry → Bool
has_route k xs = is_there (lookup route_key k xs)

-- a route as a client hands it back: Active by a hop at a cost, no flag set, not used yet
abbrev pub restored : Nwk → Nwk → ℕ → RouteEntry
restored d hop cost = record {
  destination = d;
  status = Active;
  no_route_cache = false;
  many_to_one = false;
  route_record_required = false;
  expired = false;
  next_hop_address = hop;
  path_cost = cost;
  total_usage_count = 0;
  recent_activity = 0;
}

-- the whole entry is written, over whatever stood there
unfoldable pub restore_route : Nwk → Nwk → ℕ → List RouteEntry → List RouteEntry
restore_route d hop cost xs = put route_key (restored d hop cost) xs

-- "Noting a relayed discovery leaves Active alone and makes or sets DiscoveryUnderway otherwise."
abbrev pub sought : RouteEntry → RouteEntry
sought e = cond (is_active e.status) e (with_status DiscoveryUnderway e)

-- a route that is made has hop 0xFFFF and cost 255
unfoldable pub note_relayed : Nwk → List RouteEntry → List RouteEntry
note_relayed d xs = put route_key (sought (route_or d xs)) xs

-- how the route under k stands
unfoldable pub status_at : ℕ → List RouteEntry → Option Status
status_at k xs = option_map (λ (e : RouteEntry). e.status) (lookup route_key k xs)

-- the hop of a route that is Active
abbrev pub active_hop : Option RouteEntry → Option Nwk
active_hop None = None
active_hop (Some e) = cond (is_active e.status) (Some e.next_hop_address) None

-- the hop of the Active route under k
unfoldable pub hop_at : ℕ → List RouteEntry → Option Nwk
hop_at k xs = active_hop (lookup route_key k xs)

-- "the hop to be returned .. is 0xFFFF"
abbrev pub is_unknown : Nwk → Bool
is_unknown hop = eqb hop.0 unknown_hop.0

-- "an Active route with hop 0xFFFF"
abbrev pub lacks_hop : RouteEntry → Bool
lacks_hop e = is_active e.status && is_unknown e.next_hop_address

-- "a DiscoveryUnderway route whose destination no discovery entry names"
abbrev pub is_orphan : List DiscoveryEntry → RouteEntry → Bool
is_orphan ds e = is_underway e.status && not (some_fits (names (route_key e)) ds)

-- a route that the check finds fault with
abbrev pub is_faulty : List DiscoveryEntry → RouteEntry → Bool
is_faulty ds e = lacks_hop e || is_orphan ds e

-- "the first fault .. It looks in ascending order of destination."
unfoldable pub first_fault : List DiscoveryEntry → List RouteEntry → Option RouteEntry
first_fault ds xs = first (is_faulty ds) xs
