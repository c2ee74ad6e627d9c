-- The header that a caller keeps, of which a decision is lent the destination and the fields that it may change, by their numbers. Of its other fields
-- nothing is known, and what is said holds whatever they are: a header is given by a header h, in which what is lent takes the place of h's own.
-- Document 01, "Decision (001) and neighbours (003)": "A source route sets flag, relay list, index n - 1 and suppressed discovery .. Nothing else in the header changes."
-- Assumes nothing.
use Rattle.std.specs.Prelude.{ℕ, ◌≤◌, List, map, ◌≡◌, eqb, length}
use Rattle.types.specs.declared.Nwk.{Nwk}
use Rattle.numbers.specs.Said.{flag_number}
use Rattle.standard.specs.Route.{nwk}
use Rattle.relay_store.specs.Store.{number}
use Rattle.frame.specs.declared.NwkHeader.{NwkHeader}
use Rattle.frame.specs.Numbers.{discovery_number}
use Rattle.decision_lines.specs.Header.{discovery_of}

-- the number of the discover route field, the source route bit of the frame control, whether there is a source route, and the route's index, count and places
pub record HeaderPlaces : Type 0 where
  pub discovery : ℕ
  pub bit : ℕ
  pub has : ℕ
  pub index : ℕ
  pub count : ℕ
  pub relays : List ℕ

abbrev pub header_at : ℕ → ℕ → ℕ → ℕ → ℕ → List ℕ → HeaderPlaces
header_at discovery bit has index count relays = record { discovery = discovery; bit = bit; has = has; index = index; count = count; relays = relays }

-- each number is a value of its field, and a source route has its 32 places
pub record Values (p : HeaderPlaces) : Type 0 where
  pub discovery : p.discovery ≤ 2
  pub bit : p.bit ≤ 1
  pub has : p.has ≤ 1
  pub places : length p.relays ≡ 32

-- the header h with what is lent
abbrev pub header_in : Nwk → HeaderPlaces → NwkHeader → NwkHeader
header_in destination p h = record {
  frame_control = record {
    frame_type = h.frame_control.frame_type;
    protocol_version = h.frame_control.protocol_version;
    discover_route = discovery_of p.discovery;
    multicast = h.frame_control.multicast;
    security = h.frame_control.security;
    source_route = eqb p.bit 1;
    destination = h.frame_control.destination;
    extended_source = h.frame_control.extended_source;
    end_device_initiator = h.frame_control.end_device_initiator;
    reserved1 = h.frame_control.reserved1;
  };
  destination = destination;
  source = h.source;
  radius = h.radius;
  sequence_number = h.sequence_number;
  destination_ieee = h.destination_ieee;
  source_ieee = h.source_ieee;
  multicast_control = h.multicast_control;
  has_source_route = eqb p.has 1;
  source_route = record { relay_index = p.index; relays = record { count = p.count; addresses = map nwk p.relays } };
}

-- the numbers of those fields in a header
abbrev pub header_places : NwkHeader → HeaderPlaces
header_places h =
    header_at (discovery_number h.frame_control.discover_route) (flag_number h.frame_control.source_route) (flag_number h.has_source_route)
    h.source_route.relay_index h.source_route.relays.count (map number h.source_route.relays.addresses)
