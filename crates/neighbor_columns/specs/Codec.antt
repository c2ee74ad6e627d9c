-- How a neighbour lies in ten numbers, from the lowest bit of each. No other place knows this layout.
--   key       the extended address
--   nwk       the network address
--   link      the ring of samples 40, outgoing cost 8, a bit each for receiver on when idle and keepalive received, device type 2, relationship
--   counts    transmit failures 8, connectivity 8, diversity 8, outbound 8, inbound 8, security timer 8, end device configuration
--   deadline, period, heard, added    a moment or a period each
--   beacon    incoming timestamp 32, offset        bytes    transmitted 32, received
-- The last field of a word is all that stands above the others, so that only a link word can hold what no neighbour gives.
-- Assumes nothing.
use Rattle.std.specs.Prelude.{ℕ, ◌+◌, ◌*◌, ◌/◌, ◌%◌, ◌<◌, Bool, ◌&&◌, List, [], ◌∷◌, eqb, leb, get_or}
use mir.Val.{bool_byte}
use Rattle.ring_buffer.specs.Word as ring
use Rattle.ring_buffer.specs.Ring.{well_formed}
use Rattle.neighbor_columns.specs.declared.LinkPart.{LinkPart}
use Rattle.neighbor_columns.specs.declared.CountsPart.{CountsPart}
use Rattle.neighbor_columns.specs.declared.Words.{Words}
use Rattle.neighbor_table.specs.declared.NeighborEntry.{NeighborEntry}
use Rattle.neighbor_columns.specs.Kinds.{device_type_of, relationship_of}
use Rattle.neighbor_table.specs.Entry.{device_type_number, relationship_number, neighbor_key}

-- a link word and its part of a neighbour
unfoldable pub link_of : ℕ → LinkPart
link_of w = record {
  lqas = ring.ring_of w;
  outgoing_cost = (w / 1099511627776) % 256;
  device_type = device_type_of ((w / 1125899906842624) % 4);
  relationship = relationship_of (w / 4503599627370496);
  rx_on_when_idle = eqb ((w / 281474976710656) % 2) 1;
  keepalive_received = eqb ((w / 562949953421312) % 2) 1;
}

unfoldable pub link_word : LinkPart → ℕ
link_word p =
    ring.ring_word p.lqas
    + p.outgoing_cost * 1099511627776
    + bool_byte p.rx_on_when_idle * 281474976710656
    + bool_byte p.keepalive_received * 562949953421312
    + device_type_number p.device_type * 1125899906842624
    + relationship_number p.relationship * 4503599627370496

-- a counts word and its part of a neighbour
unfoldable pub counts_of : ℕ → CountsPart
counts_of w = record {
  transmit_failure = w % 256;
  router_connectivity = (w / 256) % 256;
  router_neighbor_set_diversity = (w / 65536) % 256;
  router_outbound_activity = (w / 16777216) % 256;
  router_inbound_activity = (w / 4294967296) % 256;
  security_timer = (w / 1099511627776) % 256;
  end_device_configuration = w / 281474976710656;
}

unfoldable pub counts_word : CountsPart → ℕ
counts_word p =
    p.transmit_failure
    + p.router_connectivity * 256
    + p.router_neighbor_set_diversity * 65536
    + p.router_outbound_activity * 16777216
    + p.router_inbound_activity * 4294967296
    + p.security_timer * 1099511627776
    + p.end_device_configuration * 281474976710656

-- two numbers of 32 bits in a word
unfoldable pub low_half : ℕ → ℕ
low_half w = w % 4294967296

unfoldable pub high_half : ℕ → ℕ
high_half w = w / 4294967296

unfoldable pub pair_word : ℕ → ℕ → ℕ
pair_word low high = low + high * 4294967296

-- the parts of a neighbour
abbrev pub link_part : NeighborEntry → LinkPart
link_part e = record {
  lqas = e.lqas;
  outgoing_cost = e.outgoing_cost;
  device_type = e.device_type;
  relationship = e.relationship;
  rx_on_when_idle = e.rx_on_when_idle;
  keepalive_received = e.keepalive_received;
}

abbrev pub counts_part : NeighborEntry → CountsPart
counts_part e = record {
  transmit_failure = e.transmit_failure;
  router_connectivity = e.router_connectivity;
  router_neighbor_set_diversity = e.router_neighbor_set_diversity;
  router_outbound_activity = e.router_outbound_activity;
  router_inbound_activity = e.router_inbound_activity;
  security_timer = e.security_timer;
  end_device_configuration = e.end_device_configuration;
}

abbrev pub beacon_word : NeighborEntry → ℕ
beacon_word e = pair_word e.incoming_beacon_timestamp e.beacon_transmission_time_offset

abbrev pub bytes_word : NeighborEntry → ℕ
bytes_word e = pair_word e.mac_unicast_bytes_transmitted e.mac_unicast_bytes_received

-- a neighbour's ten numbers
abbrev pub neighbor_numbers : NeighborEntry → List ℕ
neighbor_numbers e =
    neighbor_key e
    ∷ e.network_address.0
    ∷ link_word (link_part e)
    ∷ counts_word (counts_part e)
    ∷ e.timeout_at
    ∷ e.device_timeout
    ∷ e.last_link_status_timestamp
    ∷ e.router_added_timestamp
    ∷ beacon_word e
    ∷ bytes_word e
    ∷ []

abbrev pub numbers_in : Words → List ℕ
numbers_in w =
    w.key ∷ w.nwk ∷ w.link ∷ w.counts ∷ w.deadline ∷ w.period ∷ w.heard ∷ w.added ∷ w.beacon ∷ w.bytes ∷ []

-- the neighbour of its parts and numbers
unfoldable pub neighbor_from : ℕ → ℕ → LinkPart → CountsPart → ℕ → ℕ → ℕ → ℕ → ℕ → ℕ → NeighborEntry
neighbor_from key nwk link counts deadline period heard added beacon bytes = record {
  extended_address = record { 0 = key };
  network_address = record { 0 = nwk };
  device_type = link.device_type;
  rx_on_when_idle = link.rx_on_when_idle;
  end_device_configuration = counts.end_device_configuration;
  timeout_at = deadline;
  device_timeout = period;
  relationship = link.relationship;
  transmit_failure = counts.transmit_failure;
  lqas = link.lqas;
  outgoing_cost = link.outgoing_cost;
  last_link_status_timestamp = heard;
  incoming_beacon_timestamp = low_half beacon;
  beacon_transmission_time_offset = high_half beacon;
  keepalive_received = link.keepalive_received;
  mac_unicast_bytes_transmitted = low_half bytes;
  mac_unicast_bytes_received = high_half bytes;
  router_added_timestamp = added;
  router_connectivity = counts.router_connectivity;
  router_neighbor_set_diversity = counts.router_neighbor_set_diversity;
  router_outbound_activity = counts.router_outbound_activity;
  router_inbound_activity = counts.router_inbound_activity;
  security_timer = counts.security_timer;
}

-- the neighbour in ten numbers
abbrev pub neighbor_in : ℕ → ℕ → ℕ → ℕ → ℕ → ℕ → ℕ → ℕ → ℕ → ℕ → NeighborEntry
neighbor_in key nwk link counts deadline period heard added beacon bytes =
    neighbor_from key nwk (link_of link) (counts_of counts) deadline period heard added beacon bytes

abbrev pub neighbor_of : List ℕ → NeighborEntry
neighbor_of v =
    neighbor_in (get_or v 0 0) (get_or v 1 0) (get_or v 2 0) (get_or v 3 0) (get_or v 4 0) (get_or v 5 0) (get_or v 6 0) (get_or v 7 0) (get_or v 8 0) (get_or v 9 0)

-- a link word whose device type and relationship are numbers of a variant; the relationship stands on top
pub record CleanLink (w : ℕ) : Type 0 where
  pub device : (w / 1125899906842624) % 4 < 3
  pub relation : w / 4503599627370496 < 10

abbrev pub Clean : List ℕ → Type 0
Clean v = CleanLink (get_or v 2 0)

-- numbers within their fields, as those of every program are
pub record LinkRange (p : LinkPart) : Type 0 where
  pub samples : ring.InRange p.lqas
  pub cost : p.outgoing_cost < 256

pub record CountsRange (p : CountsPart) : Type 0 where
  pub failures : p.transmit_failure < 256
  pub connectivity : p.router_connectivity < 256
  pub diversity : p.router_neighbor_set_diversity < 256
  pub outbound : p.router_outbound_activity < 256
  pub inbound : p.router_inbound_activity < 256
  pub security : p.security_timer < 256

pub record InRange (e : NeighborEntry) : Type 0 where
  pub link : LinkRange (link_part e)
  pub counts : CountsRange (counts_part e)
  pub beacon : e.incoming_beacon_timestamp < 4294967296
  pub transmitted : e.mac_unicast_bytes_transmitted < 4294967296

-- what stands in a link word is sound: "costs stored for neighbours at most 7", and samples that are well formed
unfoldable pub part_sound : LinkPart → Bool
part_sound p = leb p.outgoing_cost 7 && well_formed p.lqas
