-- What the rows of document 01 about routing share: "Own address 0000, one time, discovery time 10,000, fresh state where nothing else is
-- said, addresses in hexadecimal, requests not many-to-one."
-- Each call is the definition that the exported function's contract cites.
-- Assumes nothing.
use Rattle.std.specs.Prelude.{Option, Some}
use Prim.Native.Nat.{ℕ}
use mathlib.Core.Bool.{false}
use mathlib.Core.List.{List}
use Rattle.types.specs.declared.Nwk.{Nwk}
use Rattle.standard.specs.declared.ManyToOne.TheVariants.{NotManyToOne}
use Rattle.standard.specs.declared.RouteEntry.{RouteEntry}
use Rattle.standard.specs.declared.DiscoveryEntry.{DiscoveryEntry}
use Rattle.standard.specs.declared.Status.{Status}
use Rattle.standard.specs.Route.{nwk}
use Rattle.route_table.specs.Table as routes
use Rattle.discovery_table.specs.Table as discoveries
use Rattle.routing.specs.declared.Routing.{Routing}
use Rattle.routing.specs.declared.RouteRequestOutcome.{RouteRequestOutcome}
use Rattle.routing.specs.declared.RouteReplyOutcome.{RouteReplyOutcome}
use Rattle.routing.specs.Search.{accept_route_request, accept_route_reply}
use Rattle.routing.specs.State.{fresh, with_search, route_table, discovery_table}
use Rattle.standard.specs.declared.RouteUpdate.{RouteUpdate}

-- the own address, the one time and the discovery time
abbrev pub own : Nwk
own = nwk 0x0000

abbrev pub moment : ℕ
moment = 5000

abbrev pub span : ℕ
span = 10000

-- a request of the search (originator, id), heard from a sender at a cost
abbrev pub asked : Routing → ℕ → ℕ → ℕ → ℕ → RouteRequestOutcome
asked s originator id sender cost = accept_route_request s (nwk originator) id (nwk 0x4444) (nwk sender) cost NotManyToOne moment span

-- a reply to the search (originator, id) that names its responder, heard from a sender at a cost
abbrev pub told : Routing → ℕ → ℕ → ℕ → ℕ → ℕ → RouteReplyOutcome
told s originator id responder sender cost = accept_route_reply s own (nwk originator) id (nwk responder) (nwk sender) cost

-- the update that a route to a destination goes by a hop at a cost
abbrev pub now_by : ℕ → ℕ → ℕ → Option RouteUpdate
now_by destination hop cost = Some (record { destination = nwk destination; next_hop = nwk hop; path_cost = cost })

-- the route to a destination, as a request or a search makes it
abbrev pub route : ℕ → Status → ℕ → ℕ → RouteEntry
route destination status hop cost = record {
  destination = nwk destination;
  status = status;
  no_route_cache = false;
  many_to_one = false;
  route_record_required = false;
  expired = false;
  next_hop_address = nwk hop;
  path_cost = cost;
  total_usage_count = 0;
  recent_activity = 0;
}

-- the rows of a state
abbrev pub routes_of : Routing → List RouteEntry
routes_of s = routes.rows_of (route_table s)

abbrev pub searches_of : Routing → List DiscoveryEntry
searches_of s = discoveries.rows_of (discovery_table s)

-- the fresh state with these rows put in
abbrev pub holding : List RouteEntry → List DiscoveryEntry → Routing
holding rs ds = with_search fresh (record { routes = routes.table_of rs; discoveries = discoveries.table_of ds })
