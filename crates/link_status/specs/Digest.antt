-- What a link status command leaves: the sender's entry, the waiting samples, and whether the link is lost.
-- Document 01, "Decision (001) and neighbours (003)", third paragraph; "Refusal numbers": 10, 8, 11, 5, 4. 05-3474, section 3.6.4.4.2.
-- Assumes nothing.
use Rattle.std.specs.Prelude.{ℕ, Bool, true, cond, not, ◌&&◌, ◌||◌, List, eqb, leb, ltb, Option, Some, None, Result, Ok}
use Rattle.types.specs.declared.Nwk.{Nwk}
use Rattle.types.specs.declared.Eui64.{Eui64}
use Rattle.types.specs.declared.Refusal.{Refusal}
use Rattle.types.specs.declared.Refusal.TheVariants.{ListTooLong, LinkCostTooHigh, TimePastEnd, NeighborTableFull}
use Rattle.types.specs.Clock.{time_sum}
use Rattle.standard.specs.Ordered.{lookup, put, remove, count_with}
use Rattle.flat_map.specs.Table.{every}
use Rattle.ring_buffer.specs.declared.RingBuffer.{RingBuffer}
use Rattle.ring_buffer.specs.Ring.{after_push}
use Rattle.neighbor_table.specs.declared.NwkDeviceType.{NwkDeviceType}
use Rattle.neighbor_table.specs.declared.NwkDeviceType.TheVariants.{Coordinator, Router, EndDevice}
use Rattle.neighbor_table.specs.declared.Relationship.TheVariants.{Sibling}
use Rattle.neighbor_table.specs.declared.NeighborEntry.{NeighborEntry}
use Rattle.neighbor_table.specs.Entry.{neighbor_key, is_end_device}
use Rattle.waiting_table.specs.declared.WaitingEntry.{WaitingEntry}
use Rattle.waiting_table.specs.Entry.{waiting_key, ring_in}
use Rattle.link_status.specs.declared.LinkStatusCommand.{LinkStatusCommand}
use Rattle.link_status.specs.declared.Tally.{Tally}
use Rattle.link_status.specs.Statuses.{costs_fit, is_live_at, statuses_of, tallied}

-- 0xFFFFFFFF seconds
abbrev pub forever : ℕ
forever = 4294967295000

-- "A known end device becomes a router that listens when idle"
abbrev pub as_router : NwkDeviceType → NwkDeviceType
as_router Coordinator = Coordinator
as_router Router = Router
as_router EndDevice = Router

-- "A first frame zeroes outgoing cost, connectivity and diversity"
abbrev pub begun : Bool → NeighborEntry → Tally
begun first e = record {
  connectivity = cond first 0 e.router_connectivity;
  diversity = cond first 0 e.router_neighbor_set_diversity;
  cost = cond first 0 e.outgoing_cost;
}

unfoldable pub finished : ℕ → Tally → NeighborEntry → NeighborEntry
finished now x e = record {
  extended_address = e.extended_address;
  network_address = e.network_address;
  device_type = as_router e.device_type;
  rx_on_when_idle = e.rx_on_when_idle || is_end_device e.device_type;
  end_device_configuration = e.end_device_configuration;
  timeout_at = e.timeout_at;
  device_timeout = e.device_timeout;
  relationship = e.relationship;
  transmit_failure = e.transmit_failure;
  lqas = e.lqas;
  outgoing_cost = x.cost;
  last_link_status_timestamp = now;
  incoming_beacon_timestamp = e.incoming_beacon_timestamp;
  beacon_transmission_time_offset = e.beacon_transmission_time_offset;
  keepalive_received = e.keepalive_received;
  mac_unicast_bytes_transmitted = e.mac_unicast_bytes_transmitted;
  mac_unicast_bytes_received = e.mac_unicast_bytes_received;
  router_added_timestamp = e.router_added_timestamp;
  router_connectivity = x.connectivity;
  router_neighbor_set_diversity = x.diversity;
  router_outbound_activity = e.router_outbound_activity;
  router_inbound_activity = e.router_inbound_activity;
  security_timer = e.security_timer;
}

-- a sibling router that listens when idle, confirmed, whose deadline never comes
unfoldable pub new_router : Eui64 → Nwk → ℕ → ℕ → RingBuffer → NeighborEntry
new_router name nwk at now samples = record {
  extended_address = name;
  network_address = nwk;
  device_type = Router;
  rx_on_when_idle = true;
  end_device_configuration = 0;
  timeout_at = at;
  device_timeout = forever;
  relationship = Sibling;
  transmit_failure = 0;
  lqas = samples;
  outgoing_cost = 0;
  last_link_status_timestamp = now;
  incoming_beacon_timestamp = 0;
  beacon_transmission_time_offset = 0;
  keepalive_received = true;
  mac_unicast_bytes_transmitted = 0;
  mac_unicast_bytes_received = 0;
  router_added_timestamp = now;
  router_connectivity = 0;
  router_neighbor_set_diversity = 0;
  router_outbound_activity = 0;
  router_inbound_activity = 0;
  security_timer = 0;
}

-- "A new neighbour gets them and the quality given"
abbrev pub samples_of : Nwk → ℕ → List WaitingEntry → RingBuffer
samples_of nwk lqi ws = after_push (ring_in (lookup waiting_key nwk.0 ws)) lqi

-- what the statuses make of an entry's sums and cost, by the neighbours before the call
abbrev pub tally_by : List NeighborEntry → Nwk → LinkStatusCommand → NeighborEntry → Tally
tally_by xs own command e = tallied own (is_live_at xs) (statuses_of command) (begun command.is_first_frame e)

-- the link is lost where it had a cost and has none; "The lost link named is the neighbour's stored address"
abbrev pub lost : NeighborEntry → Tally → Result (Option Nwk) Refusal
lost e x = cond (ltb 0 e.outgoing_cost && eqb x.cost 0) (Ok (Some e.network_address)) (Ok None)

-- The rule on the rows of both tables, xs and ws. What a refusal makes of them is `refuse`, and what an answer and the rows left are, `leave`.
abbrev pub digested_rows : {O : Type 0} → ((Result (Option Nwk) Refusal) → List NeighborEntry → List WaitingEntry → O) → List NeighborEntry → List WaitingEntry → Nwk → ℕ → NeighborEntry → Tally → O
digested_rows leave xs ws nwk now e x = leave (lost e x) (put neighbor_key (finished now x e) xs) (remove waiting_key nwk.0 ws)

-- a sender that is not known wants a deadline that the clock has, and a place
abbrev pub admitted_rows : {O : Type 0} → (Refusal → O) → ((Result (Option Nwk) Refusal) → List NeighborEntry → List WaitingEntry → O) → List NeighborEntry → List WaitingEntry → Nwk → Eui64 → Nwk → ℕ → LinkStatusCommand → ℕ → Option ℕ → O
admitted_rows refuse leave xs ws own name nwk lqi command now (Some at) =
    let e = new_router name nwk at now (samples_of nwk lqi ws) in
    cond (leb (count_with neighbor_key name.0 xs) 64) (digested_rows leave xs ws nwk now e (tally_by xs own command e)) (refuse NeighborTableFull)
admitted_rows refuse leave xs ws own name nwk lqi command now None = refuse TimePastEnd

abbrev pub heard_rows : {O : Type 0} → (Refusal → O) → ((Result (Option Nwk) Refusal) → List NeighborEntry → List WaitingEntry → O) → List NeighborEntry → List WaitingEntry → Nwk → Eui64 → Nwk → ℕ → LinkStatusCommand → ℕ → Option NeighborEntry → O
heard_rows refuse leave xs ws own name nwk lqi command now None = admitted_rows refuse leave xs ws own name nwk lqi command now (time_sum now forever)
heard_rows refuse leave xs ws own name nwk lqi command now (Some e) = digested_rows leave xs ws nwk now e (tally_by xs own command e)

abbrev pub on_rows : {O : Type 0} → (Refusal → O) → ((Result (Option Nwk) Refusal) → List NeighborEntry → List WaitingEntry → O) → List NeighborEntry → List WaitingEntry → Nwk → Eui64 → Nwk → ℕ → LinkStatusCommand → ℕ → O
on_rows refuse leave xs ws own name nwk lqi command now =
    cond (ltb 31 command.count) (refuse ListTooLong)
    (cond (not (every costs_fit (statuses_of command))) (refuse LinkCostTooHigh)
    (heard_rows refuse leave xs ws own name nwk lqi command now (lookup neighbor_key name.0 xs)))
