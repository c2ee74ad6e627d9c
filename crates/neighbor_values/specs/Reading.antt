-- Samples, a neighbour and a waiting entry read from numbers, from a place on, in the order in which they are said.
-- Assumes nothing.
use Rattle.std.specs.Prelude.{ℕ, ◌+◌, List, [], ◌∷◌}
use Rattle.numbers.specs.Read.{number_at, byte_at, short_at, counter_at, flag_at, nwk_at, eui64_at}
use Rattle.ring_buffer.specs.declared.RingBuffer.{RingBuffer}
use Rattle.neighbor_table.specs.declared.NeighborEntry.{NeighborEntry}
use Rattle.waiting_table.specs.declared.WaitingEntry.{WaitingEntry}
use Rattle.neighbor_values.specs.Kinds.{device_type_of, relationship_of}

-- samples, from place b on: how many, the next place, and the three places
unfoldable pub samples_at : List ℕ → ℕ → RingBuffer
samples_at xs b = record {
  values = byte_at xs (b + 2) ∷ byte_at xs (b + 3) ∷ byte_at xs (b + 4) ∷ [];
  len = byte_at xs b;
  next = byte_at xs (b + 1);
}

-- a neighbour, from place b on
unfoldable pub neighbor_at : List ℕ → ℕ → NeighborEntry
neighbor_at xs b = record {
  extended_address = eui64_at xs b;
  network_address = nwk_at xs (b + 1);
  device_type = device_type_of (number_at xs (b + 2));
  rx_on_when_idle = flag_at xs (b + 3);
  end_device_configuration = short_at xs (b + 4);
  timeout_at = number_at xs (b + 5);
  device_timeout = number_at xs (b + 6);
  relationship = relationship_of (number_at xs (b + 7));
  transmit_failure = byte_at xs (b + 8);
  lqas = samples_at xs (b + 9);
  outgoing_cost = byte_at xs (b + 14);
  last_link_status_timestamp = number_at xs (b + 15);
  incoming_beacon_timestamp = counter_at xs (b + 16);
  beacon_transmission_time_offset = counter_at xs (b + 17);
  keepalive_received = flag_at xs (b + 18);
  mac_unicast_bytes_transmitted = counter_at xs (b + 19);
  mac_unicast_bytes_received = counter_at xs (b + 20);
  router_added_timestamp = number_at xs (b + 21);
  router_connectivity = byte_at xs (b + 22);
  router_neighbor_set_diversity = byte_at xs (b + 23);
  router_outbound_activity = byte_at xs (b + 24);
  router_inbound_activity = byte_at xs (b + 25);
  security_timer = byte_at xs (b + 26);
}

-- a waiting entry, from place b on
unfoldable pub waiting_entry_at : List ℕ → ℕ → WaitingEntry
waiting_entry_at xs b = record { network_address = nwk_at xs b; lqas = samples_at xs (b + 1) }
