-- What a call does to one neighbour. Each definition names the fields that change; the others stay.
-- Document 01, "Decision (001) and neighbours (003)"; 05-3474, table 3-75 for the fields and section 3.6.10 for keepalives.
-- Assumes nothing.
use Rattle.std.specs.Prelude.{ℕ, ◌+◌, min, Bool, true, not}
use Rattle.types.specs.declared.Nwk.{Nwk}
use Rattle.ring_buffer.specs.Ring.{after_push}
use Rattle.neighbor_table.specs.declared.NeighborEntry.{NeighborEntry}
use Rattle.neighbor_queries.specs.declared.Filter.{Filter}
use Rattle.neighbor_queries.specs.Filter.{fits}
use Rattle.neighbor_changes.specs.declared.Change.{Change}
use Rattle.neighbor_changes.specs.declared.Change.TheVariants.{Sample, Outbound, Inbound, Failure, Address, Keepalive, Timeout}

-- one more sample of the link
abbrev pub sampled : ℕ → NeighborEntry → NeighborEntry
sampled lqi e = record {
  extended_address = e.extended_address;
  network_address = e.network_address;
  device_type = e.device_type;
  rx_on_when_idle = e.rx_on_when_idle;
  end_device_configuration = e.end_device_configuration;
  timeout_at = e.timeout_at;
  device_timeout = e.device_timeout;
  relationship = e.relationship;
  transmit_failure = e.transmit_failure;
  lqas = after_push e.lqas lqi;
  outgoing_cost = e.outgoing_cost;
  last_link_status_timestamp = e.last_link_status_timestamp;
  incoming_beacon_timestamp = e.incoming_beacon_timestamp;
  beacon_transmission_time_offset = e.beacon_transmission_time_offset;
  keepalive_received = e.keepalive_received;
  mac_unicast_bytes_transmitted = e.mac_unicast_bytes_transmitted;
  mac_unicast_bytes_received = e.mac_unicast_bytes_received;
  router_added_timestamp = e.router_added_timestamp;
  router_connectivity = e.router_connectivity;
  router_neighbor_set_diversity = e.router_neighbor_set_diversity;
  router_outbound_activity = e.router_outbound_activity;
  router_inbound_activity = e.router_inbound_activity;
  security_timer = e.security_timer;
}

-- a unicast went out by this neighbour; the counter stops at 255
abbrev pub sent : NeighborEntry → NeighborEntry
sent e = record {
  extended_address = e.extended_address;
  network_address = e.network_address;
  device_type = e.device_type;
  rx_on_when_idle = e.rx_on_when_idle;
  end_device_configuration = e.end_device_configuration;
  timeout_at = e.timeout_at;
  device_timeout = e.device_timeout;
  relationship = e.relationship;
  transmit_failure = e.transmit_failure;
  lqas = e.lqas;
  outgoing_cost = e.outgoing_cost;
  last_link_status_timestamp = e.last_link_status_timestamp;
  incoming_beacon_timestamp = e.incoming_beacon_timestamp;
  beacon_transmission_time_offset = e.beacon_transmission_time_offset;
  keepalive_received = e.keepalive_received;
  mac_unicast_bytes_transmitted = e.mac_unicast_bytes_transmitted;
  mac_unicast_bytes_received = e.mac_unicast_bytes_received;
  router_added_timestamp = e.router_added_timestamp;
  router_connectivity = e.router_connectivity;
  router_neighbor_set_diversity = e.router_neighbor_set_diversity;
  router_outbound_activity = min (e.router_outbound_activity + 1) 255;
  router_inbound_activity = e.router_inbound_activity;
  security_timer = e.security_timer;
}

-- a unicast came in by this neighbour; the counter stops at 255
abbrev pub received : NeighborEntry → NeighborEntry
received e = record {
  extended_address = e.extended_address;
  network_address = e.network_address;
  device_type = e.device_type;
  rx_on_when_idle = e.rx_on_when_idle;
  end_device_configuration = e.end_device_configuration;
  timeout_at = e.timeout_at;
  device_timeout = e.device_timeout;
  relationship = e.relationship;
  transmit_failure = e.transmit_failure;
  lqas = e.lqas;
  outgoing_cost = e.outgoing_cost;
  last_link_status_timestamp = e.last_link_status_timestamp;
  incoming_beacon_timestamp = e.incoming_beacon_timestamp;
  beacon_transmission_time_offset = e.beacon_transmission_time_offset;
  keepalive_received = e.keepalive_received;
  mac_unicast_bytes_transmitted = e.mac_unicast_bytes_transmitted;
  mac_unicast_bytes_received = e.mac_unicast_bytes_received;
  router_added_timestamp = e.router_added_timestamp;
  router_connectivity = e.router_connectivity;
  router_neighbor_set_diversity = e.router_neighbor_set_diversity;
  router_outbound_activity = e.router_outbound_activity;
  router_inbound_activity = min (e.router_inbound_activity + 1) 255;
  security_timer = e.security_timer;
}

-- a unicast to this neighbour was not acknowledged; the counter stops at 255
abbrev pub failed : NeighborEntry → NeighborEntry
failed e = record {
  extended_address = e.extended_address;
  network_address = e.network_address;
  device_type = e.device_type;
  rx_on_when_idle = e.rx_on_when_idle;
  end_device_configuration = e.end_device_configuration;
  timeout_at = e.timeout_at;
  device_timeout = e.device_timeout;
  relationship = e.relationship;
  transmit_failure = min (e.transmit_failure + 1) 255;
  lqas = e.lqas;
  outgoing_cost = e.outgoing_cost;
  last_link_status_timestamp = e.last_link_status_timestamp;
  incoming_beacon_timestamp = e.incoming_beacon_timestamp;
  beacon_transmission_time_offset = e.beacon_transmission_time_offset;
  keepalive_received = e.keepalive_received;
  mac_unicast_bytes_transmitted = e.mac_unicast_bytes_transmitted;
  mac_unicast_bytes_received = e.mac_unicast_bytes_received;
  router_added_timestamp = e.router_added_timestamp;
  router_connectivity = e.router_connectivity;
  router_neighbor_set_diversity = e.router_neighbor_set_diversity;
  router_outbound_activity = e.router_outbound_activity;
  router_inbound_activity = e.router_inbound_activity;
  security_timer = e.security_timer;
}

-- the failures are forgotten
abbrev pub forgiven : NeighborEntry → NeighborEntry
forgiven e = record {
  extended_address = e.extended_address;
  network_address = e.network_address;
  device_type = e.device_type;
  rx_on_when_idle = e.rx_on_when_idle;
  end_device_configuration = e.end_device_configuration;
  timeout_at = e.timeout_at;
  device_timeout = e.device_timeout;
  relationship = e.relationship;
  transmit_failure = 0;
  lqas = e.lqas;
  outgoing_cost = e.outgoing_cost;
  last_link_status_timestamp = e.last_link_status_timestamp;
  incoming_beacon_timestamp = e.incoming_beacon_timestamp;
  beacon_transmission_time_offset = e.beacon_transmission_time_offset;
  keepalive_received = e.keepalive_received;
  mac_unicast_bytes_transmitted = e.mac_unicast_bytes_transmitted;
  mac_unicast_bytes_received = e.mac_unicast_bytes_received;
  router_added_timestamp = e.router_added_timestamp;
  router_connectivity = e.router_connectivity;
  router_neighbor_set_diversity = e.router_neighbor_set_diversity;
  router_outbound_activity = e.router_outbound_activity;
  router_inbound_activity = e.router_inbound_activity;
  security_timer = e.security_timer;
}

-- another network address
abbrev pub moved : Nwk → NeighborEntry → NeighborEntry
moved nwk e = record {
  extended_address = e.extended_address;
  network_address = nwk;
  device_type = e.device_type;
  rx_on_when_idle = e.rx_on_when_idle;
  end_device_configuration = e.end_device_configuration;
  timeout_at = e.timeout_at;
  device_timeout = e.device_timeout;
  relationship = e.relationship;
  transmit_failure = e.transmit_failure;
  lqas = e.lqas;
  outgoing_cost = e.outgoing_cost;
  last_link_status_timestamp = e.last_link_status_timestamp;
  incoming_beacon_timestamp = e.incoming_beacon_timestamp;
  beacon_transmission_time_offset = e.beacon_transmission_time_offset;
  keepalive_received = e.keepalive_received;
  mac_unicast_bytes_transmitted = e.mac_unicast_bytes_transmitted;
  mac_unicast_bytes_received = e.mac_unicast_bytes_received;
  router_added_timestamp = e.router_added_timestamp;
  router_connectivity = e.router_connectivity;
  router_neighbor_set_diversity = e.router_neighbor_set_diversity;
  router_outbound_activity = e.router_outbound_activity;
  router_inbound_activity = e.router_inbound_activity;
  security_timer = e.security_timer;
}

-- a keepalive moves the deadline
abbrev pub kept_alive : ℕ → NeighborEntry → NeighborEntry
kept_alive at e = record {
  extended_address = e.extended_address;
  network_address = e.network_address;
  device_type = e.device_type;
  rx_on_when_idle = e.rx_on_when_idle;
  end_device_configuration = e.end_device_configuration;
  timeout_at = at;
  device_timeout = e.device_timeout;
  relationship = e.relationship;
  transmit_failure = e.transmit_failure;
  lqas = e.lqas;
  outgoing_cost = e.outgoing_cost;
  last_link_status_timestamp = e.last_link_status_timestamp;
  incoming_beacon_timestamp = e.incoming_beacon_timestamp;
  beacon_transmission_time_offset = e.beacon_transmission_time_offset;
  keepalive_received = true;
  mac_unicast_bytes_transmitted = e.mac_unicast_bytes_transmitted;
  mac_unicast_bytes_received = e.mac_unicast_bytes_received;
  router_added_timestamp = e.router_added_timestamp;
  router_connectivity = e.router_connectivity;
  router_neighbor_set_diversity = e.router_neighbor_set_diversity;
  router_outbound_activity = e.router_outbound_activity;
  router_inbound_activity = e.router_inbound_activity;
  security_timer = e.security_timer;
}

-- an end device asked for another period, which counts as a keepalive
abbrev pub retimed : ℕ → ℕ → ℕ → NeighborEntry → NeighborEntry
retimed period configuration at e = record {
  extended_address = e.extended_address;
  network_address = e.network_address;
  device_type = e.device_type;
  rx_on_when_idle = e.rx_on_when_idle;
  end_device_configuration = configuration;
  timeout_at = at;
  device_timeout = period;
  relationship = e.relationship;
  transmit_failure = e.transmit_failure;
  lqas = e.lqas;
  outgoing_cost = e.outgoing_cost;
  last_link_status_timestamp = e.last_link_status_timestamp;
  incoming_beacon_timestamp = e.incoming_beacon_timestamp;
  beacon_transmission_time_offset = e.beacon_transmission_time_offset;
  keepalive_received = true;
  mac_unicast_bytes_transmitted = e.mac_unicast_bytes_transmitted;
  mac_unicast_bytes_received = e.mac_unicast_bytes_received;
  router_added_timestamp = e.router_added_timestamp;
  router_connectivity = e.router_connectivity;
  router_neighbor_set_diversity = e.router_neighbor_set_diversity;
  router_outbound_activity = e.router_outbound_activity;
  router_inbound_activity = e.router_inbound_activity;
  security_timer = e.security_timer;
}

unfoldable pub applied : Change → NeighborEntry → NeighborEntry
applied (Sample lqi) e = sampled lqi e
applied Outbound e = sent e
applied Inbound e = received e
applied Failure e = failed e
applied (Address nwk) e = moved nwk e
applied (Keepalive at) e = kept_alive at e
applied (Timeout period configuration at) e = retimed period configuration at e

-- the rows that a sweep leaves are those that do not fit
abbrev pub misses : Filter → NeighborEntry → Bool
misses filter e = not (fits filter e)
