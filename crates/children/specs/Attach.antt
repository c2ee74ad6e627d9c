-- What a joining child stores: the Rust's `upsert_child`.
-- Document 01, "Capacities and clock"; a known child keeps samples, configuration, keepalive, costs and time stamps.
-- Assumes nothing.
use Rattle.std.specs.Prelude.{ℕ, Option, Some, None}
use Rattle.types.specs.declared.Eui64.{Eui64}
use Rattle.neighbor_table.specs.declared.NeighborEntry.{NeighborEntry}
use Rattle.neighbor_table.specs.Entry.{blank_neighbor}
use Rattle.children.specs.declared.ChildDescriptor.{ChildDescriptor}

-- an entry with nothing but its address and the moment it was made
abbrev pub new_entry : Eui64 → ℕ → NeighborEntry
new_entry eui64 now = record {
  extended_address = eui64;
  network_address = blank_neighbor.network_address;
  device_type = blank_neighbor.device_type;
  rx_on_when_idle = blank_neighbor.rx_on_when_idle;
  end_device_configuration = blank_neighbor.end_device_configuration;
  timeout_at = blank_neighbor.timeout_at;
  device_timeout = blank_neighbor.device_timeout;
  relationship = blank_neighbor.relationship;
  transmit_failure = blank_neighbor.transmit_failure;
  lqas = blank_neighbor.lqas;
  outgoing_cost = blank_neighbor.outgoing_cost;
  last_link_status_timestamp = now;
  incoming_beacon_timestamp = blank_neighbor.incoming_beacon_timestamp;
  beacon_transmission_time_offset = blank_neighbor.beacon_transmission_time_offset;
  keepalive_received = blank_neighbor.keepalive_received;
  mac_unicast_bytes_transmitted = blank_neighbor.mac_unicast_bytes_transmitted;
  mac_unicast_bytes_received = blank_neighbor.mac_unicast_bytes_received;
  router_added_timestamp = now;
  router_connectivity = blank_neighbor.router_connectivity;
  router_neighbor_set_diversity = blank_neighbor.router_neighbor_set_diversity;
  router_outbound_activity = blank_neighbor.router_outbound_activity;
  router_inbound_activity = blank_neighbor.router_inbound_activity;
  security_timer = blank_neighbor.security_timer;
}

-- the entry that was found, or else a new one
abbrev pub start_in : Option NeighborEntry → Eui64 → ℕ → NeighborEntry
start_in None eui64 now = new_entry eui64 now
start_in (Some e) eui64 now = e

-- what the device says of itself, with its deadline
abbrev pub attached : ChildDescriptor → ℕ → NeighborEntry → NeighborEntry
attached child at e = record {
  extended_address = e.extended_address;
  network_address = child.network_address;
  device_type = child.device_type;
  rx_on_when_idle = child.rx_on_when_idle;
  end_device_configuration = e.end_device_configuration;
  timeout_at = at;
  device_timeout = child.device_timeout;
  relationship = child.relationship;
  transmit_failure = e.transmit_failure;
  lqas = e.lqas;
  outgoing_cost = e.outgoing_cost;
  last_link_status_timestamp = e.last_link_status_timestamp;
  incoming_beacon_timestamp = e.incoming_beacon_timestamp;
  beacon_transmission_time_offset = e.beacon_transmission_time_offset;
  keepalive_received = e.keepalive_received;
  mac_unicast_bytes_transmitted = e.mac_unicast_bytes_transmitted;
  mac_unicast_bytes_received = e.mac_unicast_bytes_received;
  router_added_timestamp = e.router_added_timestamp;
  router_connectivity = e.router_connectivity;
  router_neighbor_set_diversity = e.router_neighbor_set_diversity;
  router_outbound_activity = e.router_outbound_activity;
  router_inbound_activity = e.router_inbound_activity;
  security_timer = e.security_timer;
}
