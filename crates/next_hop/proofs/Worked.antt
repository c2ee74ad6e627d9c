-- Calls worked out, by the default policy: each computes to its row.
-- A row is what a script is told: the number of the answer, the hop, and the header's numbers.
use Rattle.std.specs.Prelude.{None}
use Prim.Native.Nat.{ℕ}
use mathlib.Core.Bool.{true, false}
use mathlib.Core.List.{List, [], ◌∷◌}
use mathlib.Core.Path.{◌≡◌, refl}
use Rattle.types.specs.declared.Nwk.{Nwk}
use Rattle.standard.specs.declared.RouteEntry.{RouteEntry}
use Rattle.standard.specs.Calls.{hop_at, restored}
use Rattle.standard.specs.Ordered.{lookup}
use Rattle.standard.specs.Query.{some_fits}
use Rattle.standard.specs.Records.{RouteRecord, record_for}
use Rattle.standard.specs.Route.{nwk}
use Rattle.columns.specs.Columns.{places, ordered}
use Rattle.route_table.specs.Codec.{route_word, route_in}
use Rattle.discovery_table.specs.Codec.{discovery_word, discovery_in}
use Rattle.route_table.specs.Table as routes
use Rattle.discovery_table.specs.Table as discoveries
use Rattle.record_table.specs.Table as records
use Rattle.ring_buffer.specs.Ring as ring
use Rattle.neighbor_table.specs.declared.NwkDeviceType.{NwkDeviceType}
use Rattle.neighbor_table.specs.declared.NwkDeviceType.TheVariants.{Router, EndDevice}
use Rattle.neighbor_table.specs.declared.Relationship.{Relationship}
use Rattle.neighbor_table.specs.declared.Relationship.TheVariants.{Child, Sibling}
use Rattle.neighbor_table.specs.declared.NeighborEntry.{NeighborEntry}
use Rattle.neighbor_table.specs.Entry as neighbour
use Rattle.neighbor_queries.specs.Filter.{fits}
use Rattle.neighbor_columns.specs.Codec.{link_of, link_word, counts_of, counts_word, low_half, high_half, pair_word, neighbor_from}
use Rattle.neighbor_columns.specs.Table as neighbours
use Rattle.waiting_columns.specs.Table as waiting
use Rattle.ring_buffer.specs.Word.{ring_of, ring_word}
use Rattle.relay_store.specs.Store.{relay_list, agrees_by, rows_in, flat}
use Rattle.relay_store.specs.Packed.{records_of, table_for, store_for}
use Rattle.route_record.specs.Answer.{way_to}
use Rattle.routing.specs.declared.Routing.{Routing}
use Rattle.numbers.specs.Said.{Said, ok, refused}
use Rattle.routing.specs.State as state
use Rattle.neighbors.specs.State as known
use Rattle.frame.specs.declared.NwkFrameType.TheVariants.{Data}
use Rattle.frame.specs.declared.NwkRouteDiscovery.{NwkRouteDiscovery}
use Rattle.frame.specs.declared.NwkRouteDiscovery.TheVariants.{Suppress, Enable, WithMulticast}
use Rattle.frame.specs.declared.NwkHeader.{NwkHeader}
use Rattle.frame.specs.Numbers.{header_numbers}
use Rattle.hop_choice.specs.declared.HostRoute.TheVariants.{NextHop, SourceRoute}
use Rattle.hop_choice.specs.declared.RouteDirective.{RouteDirective}
use Rattle.hop_choice.specs.declared.RouteDirective.TheVariants.{StackDecides, Hint, Force}
use Rattle.hop_choice.specs.declared.SendKind.TheVariants.{Direct, Route}
use Rattle.next_hop.specs.declared.SendMode.{SendMode}
use Rattle.next_hop.specs.Decision.{record_step, active_step, decided_on, resolve, resolve_default}
use Rattle.next_hop.specs.Numbers.{resolve_said}

-- a header for address 77 that carries no source route
abbrev header : NwkRouteDiscovery → NwkHeader
header d = record {
  frame_control = record {
    frame_type = Data;
    protocol_version = 2;
    discover_route = d;
    multicast = false;
    security = true;
    source_route = false;
    destination = false;
    extended_source = false;
    end_device_initiator = false;
    reserved1 = 0;
  };
  destination = nwk 77;
  source = nwk 0;
  radius = 30;
  sequence_number = 1;
  destination_ieee = None;
  source_ieee = None;
  multicast_control = None;
  has_source_route = false;
  source_route = record { relay_index = 0; relays = relay_list [] };
}

abbrev sent : RouteDirective → List Nwk → SendMode
sent d relays = record { kind = Route d; relays = relay_list relays }

-- a state with routes and records and nothing else in it, and what it is asked by the default policy
abbrev holding : List RouteEntry → List RouteRecord → Routing
holding xs rs = state.state_of 0 0 0 (routes.table_of xs) (discoveries.table_of []) (table_for rs)

abbrev said : List RouteEntry → List RouteRecord → NwkRouteDiscovery → SendMode → Said
said xs rs d m = resolve_said (resolve_default (holding xs rs) known.fresh (header d) m (store_for rs))

-- a neighbour of address 77, and what is asked where there are neighbours
abbrev near : ℕ → NwkDeviceType → Relationship → NeighborEntry
near eui type relationship = record {
  extended_address = record { 0 = eui };
  network_address = nwk 77;
  device_type = type;
  rx_on_when_idle = true;
  end_device_configuration = 0;
  timeout_at = 0;
  device_timeout = 0;
  relationship = relationship;
  transmit_failure = 0;
  lqas = ring.fresh;
  outgoing_cost = 0;
  last_link_status_timestamp = 0;
  incoming_beacon_timestamp = 0;
  beacon_transmission_time_offset = 0;
  keepalive_received = false;
  mac_unicast_bytes_transmitted = 0;
  mac_unicast_bytes_received = 0;
  router_added_timestamp = 0;
  router_connectivity = 0;
  router_neighbor_set_diversity = 0;
  router_outbound_activity = 0;
  router_inbound_activity = 0;
  security_timer = 0;
}

abbrev said_near : List NeighborEntry → List RouteEntry → Said
said_near ns xs = resolve_said (resolve_default (holding xs []) (known.state_of ns []) (header Enable) (sent StackDecides []) (store_for []))

-- the header's numbers after the answer: as it came, and with a source route of two relays
abbrev plain : ℕ → List ℕ
plain d = 0 ∷ 2 ∷ d ∷ 0 ∷ 1 ∷ 0 ∷ 0 ∷ 0 ∷ 0 ∷ 0 ∷ 77 ∷ 0 ∷ 30 ∷ 1 ∷ 0 ∷ 0 ∷ 0 ∷ 0 ∷ []

abbrev through : ℕ → ℕ → List ℕ
through a b = 0 ∷ 2 ∷ 0 ∷ 0 ∷ 1 ∷ 1 ∷ 0 ∷ 0 ∷ 0 ∷ 0 ∷ 77 ∷ 0 ∷ 30 ∷ 1 ∷ 0 ∷ 0 ∷ 0 ∷ 1 ∷ 1 ∷ 2 ∷ a ∷ b ∷ []

-- the Active route to 77 by a hop
abbrev by : ℕ → List RouteEntry
by hop = restored (nwk 77) (nwk hop) 2 ∷ []

pub record Rows : Type 0 where
  -- nothing is known: discovery is needed, at any value but 0, and else the frame is given up
  pub needed : said [] [] Enable (sent StackDecides []) ≡ ok (1 ∷ plain 1)
  pub needed-too : said [] [] WithMulticast (sent StackDecides []) ≡ ok (1 ∷ plain 2)
  pub given-up : said [] [] Suppress (sent StackDecides []) ≡ ok (2 ∷ plain 0)
  -- direct mode, and the Active route
  pub direct : said (by 20) [] Enable (record { kind = Direct; relays = relay_list [] }) ≡ ok (0 ∷ 77 ∷ plain 1)
  pub active : said (by 20) [] Enable (sent StackDecides []) ≡ ok (0 ∷ 20 ∷ plain 1)
  -- an end device child is reached straight; a router child is not, and does not hide one
  pub child : said_near (near 1 EndDevice Child ∷ []) (by 20) ≡ ok (0 ∷ 77 ∷ plain 1)
  pub router-child : said_near (near 1 Router Child ∷ []) (by 20) ≡ ok (0 ∷ 20 ∷ plain 1)
  pub behind-router : said_near (near 1 Router Sibling ∷ near 2 EndDevice Child ∷ []) (by 20) ≡ ok (0 ∷ 77 ∷ plain 1)
  -- a record goes before the Active route: an empty one is direct, another a source route
  pub record-first : said (by 20) (record_for (nwk 77) [] ∷ []) Enable (sent StackDecides []) ≡ ok (0 ∷ 77 ∷ plain 1)
  pub record-relays : said (by 20) (record_for (nwk 77) (nwk 5 ∷ nwk 6 ∷ []) ∷ []) Enable (sent StackDecides []) ≡ ok (0 ∷ 6 ∷ through 5 6)
  -- a forced route goes before both; a forced hop of 0xFFFF is no refusal
  pub force-list : said (by 20) [] Enable (sent (Force SourceRoute) (nwk 21 ∷ nwk 22 ∷ [])) ≡ ok (0 ∷ 22 ∷ through 21 22)
  pub force-hop : said (by 20) [] Enable (sent (Force (NextHop (nwk 65535))) []) ≡ ok (0 ∷ 65535 ∷ plain 1)
  pub force-none : said (by 20) [] Enable (sent (Force SourceRoute) []) ≡ refused 7
  -- a hint comes after both; an empty one is refused only where it is the one to be applied; 6 comes before a hint
  pub hint-list : said [] [] Enable (sent (Hint SourceRoute) (nwk 21 ∷ nwk 22 ∷ [])) ≡ ok (0 ∷ 22 ∷ through 21 22)
  pub hint-passed : said (by 20) [] Enable (sent (Hint SourceRoute) []) ≡ ok (0 ∷ 20 ∷ plain 1)
  pub hint-none : said [] [] Enable (sent (Hint SourceRoute) []) ≡ refused 7
  pub unknown-hop : said (by 65535) [] Enable (sent (Hint (NextHop (nwk 21))) []) ≡ refused 6

pub rows : Rows
unfolding resolve decided_on record_step active_step header_numbers state.well_formed known.well_formed ordered places route_word route_in discovery_word discovery_in agrees_by routes.table_of discoveries.table_of records.table_of neighbours.table_of neighbours.formed64 link_of link_word counts_of counts_word low_half high_half pair_word neighbor_from ring_of ring_word neighbour.is_sound fits waiting.table_of relay_list lookup hop_at way_to records_of rows_in flat some_fits
rows = record {
  needed = refl;
  needed-too = refl;
  given-up = refl;
  direct = refl;
  active = refl;
  child = refl;
  router-child = refl;
  behind-router = refl;
  record-first = refl;
  record-relays = refl;
  force-list = refl;
  force-hop = refl;
  force-none = refl;
  hint-list = refl;
  hint-passed = refl;
  hint-none = refl;
  unknown-hop = refl;
}
