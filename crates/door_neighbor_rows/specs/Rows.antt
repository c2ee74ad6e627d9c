-- The numbers of the neighbour at a place: whether there is one, its fields, and what is read off them.
-- Document 01, "How each place should look": "a definition gives this paper's number and values for each of its cases".
-- Assumes nothing.
use Rattle.std.specs.Prelude.{ℕ, get_or, Option, Some, None, Result, Ok, Err}
use Rattle.types.specs.Refusal.{refusal_number}
use Rattle.numbers.specs.Said.{flag_number}
use Rattle.neighbor_table.specs.declared.NeighborEntry.{NeighborEntry}
use Rattle.neighbor_table.specs.Entry.{device_type_number, relationship_number, quality_of, cost_of, is_child_of}
use Rattle.types.specs.declared.Refusal.{Refusal}
use Rattle.door.specs.Lent.{Reading}
use Rattle.door_neighbor_rows.specs.declared.QualityPlaces.{QualityPlaces}
use Rattle.door_neighbor_rows.specs.declared.NeighborPlaces.{NeighborPlaces}

-- whether a quality is known, and the quality
abbrev pub quality_known : Option ℕ → ℕ
quality_known None = 0
quality_known (Some lqa) = 1

abbrev pub quality_number : Option ℕ → ℕ
quality_number None = 0
quality_number (Some lqa) = lqa

abbrev pub quality_places : Option ℕ → QualityPlaces
quality_places quality = record { known = quality_known quality; lqa = quality_number quality }

-- a neighbour: whether there is one; its fields in their order, the samples as how many are held, the next place and the three places; then
-- its quality, its incoming cost and whether it is a child
abbrev pub neighbor_at_places : ℕ → ℕ → ℕ → ℕ → ℕ → ℕ → ℕ → ℕ → ℕ → ℕ → ℕ → ℕ → ℕ → ℕ → ℕ → ℕ → ℕ → ℕ → ℕ → ℕ → ℕ → ℕ → ℕ → ℕ → ℕ → ℕ → ℕ → ℕ → ℕ → ℕ → ℕ → ℕ → NeighborPlaces
neighbor_at_places found eui64 nwk kind listens configuration deadline period relation failures held next first second third outgoing heard beacon offset alive sent received added connectivity diversity outbound inbound timer known lqa incoming child = record {
  found = found;
  extended_address = eui64;
  network_address = nwk;
  device_type = kind;
  rx_on_when_idle = listens;
  end_device_configuration = configuration;
  timeout_at = deadline;
  device_timeout = period;
  relationship = relation;
  transmit_failure = failures;
  samples_held = held;
  next_sample = next;
  first_sample = first;
  second_sample = second;
  third_sample = third;
  outgoing_cost = outgoing;
  last_link_status_timestamp = heard;
  incoming_beacon_timestamp = beacon;
  beacon_transmission_time_offset = offset;
  keepalive_received = alive;
  mac_unicast_bytes_transmitted = sent;
  mac_unicast_bytes_received = received;
  router_added_timestamp = added;
  router_connectivity = connectivity;
  router_neighbor_set_diversity = diversity;
  router_outbound_activity = outbound;
  router_inbound_activity = inbound;
  security_timer = timer;
  lqa_known = known;
  lqa = lqa;
  incoming_link_cost = incoming;
  is_child = child;
}

abbrev pub no_places : NeighborPlaces
no_places = neighbor_at_places 0 0 0 0 0 0 0 0 0 0 0 0 0 0 0 0 0 0 0 0 0 0 0 0 0 0 0 0 0 0 0 0

abbrev pub entry_places : NeighborEntry → NeighborPlaces
entry_places e =
    neighbor_at_places 1 e.extended_address.0 e.network_address.0 (device_type_number e.device_type) (flag_number e.rx_on_when_idle) e.end_device_configuration e.timeout_at e.device_timeout (relationship_number e.relationship) e.transmit_failure e.lqas.len e.lqas.next (get_or e.lqas.values 0 0) (get_or e.lqas.values 1 0) (get_or e.lqas.values 2 0) e.outgoing_cost e.last_link_status_timestamp e.incoming_beacon_timestamp e.beacon_transmission_time_offset (flag_number e.keepalive_received) e.mac_unicast_bytes_transmitted e.mac_unicast_bytes_received e.router_added_timestamp e.router_connectivity e.router_neighbor_set_diversity e.router_outbound_activity e.router_inbound_activity e.security_timer (quality_known (quality_of e.lqas)) (quality_number (quality_of e.lqas)) (cost_of (quality_of e.lqas)) (flag_number (is_child_of e.relationship))

-- what was looked up
abbrev pub neighbor_places : Option NeighborEntry → NeighborPlaces
neighbor_places None = no_places
neighbor_places (Some e) = entry_places e

-- the numbers of the answer
abbrev pub entry_status : Result (Option NeighborEntry) Refusal → ℕ
entry_status (Ok found) = 0
entry_status (Err why) = refusal_number why

abbrev pub answer_places : Result (Option NeighborEntry) Refusal → NeighborPlaces → NeighborPlaces
answer_places (Ok found) old = neighbor_places found
answer_places (Err why) old = old

abbrev pub neighbor_numbers : Reading (Result (Option NeighborEntry) Refusal) NeighborPlaces
neighbor_numbers = record { status = entry_status; places = answer_places }
