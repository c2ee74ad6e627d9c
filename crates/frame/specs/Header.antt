-- What is read off a network header, and the two changes that are made to one.
-- Document 01, "Decision (001) and neighbours (003)": "A source route sets flag, relay list, index n - 1 and suppressed discovery .. Nothing else in the header changes."
-- Assumes nothing.
use Rattle.std.specs.Prelude.{◌-◌, Bool, true, false, ◌&&◌, ltb}
use Rattle.standard.specs.declared.RelayList.{RelayList}
use Rattle.frame.specs.declared.NwkRouteDiscovery.{NwkRouteDiscovery}
use Rattle.frame.specs.declared.NwkRouteDiscovery.TheVariants.{Suppress, Enable, WithMulticast}
use Rattle.frame.specs.declared.NwkFrameControl.{NwkFrameControl}
use Rattle.frame.specs.declared.NwkHeader.{NwkHeader}

-- 05-3474, section 3.3.1.1.3: value 0 suppresses discovery; every other value allows it
abbrev pub is_suppressed : NwkRouteDiscovery → Bool
is_suppressed Suppress = true
is_suppressed Enable = false
is_suppressed WithMulticast = false

-- "one already in the given header, at most 32 relays, applied or not"
abbrev pub carries_long : NwkHeader → Bool
carries_long h = h.has_source_route && ltb 32 h.source_route.relays.count

-- 05-3474, section 3.6.4.3.1: the source route bit, and no discovery
abbrev pub routed_control : NwkFrameControl → NwkFrameControl
routed_control k = record {
  frame_type = k.frame_type;
  protocol_version = k.protocol_version;
  discover_route = Suppress;
  multicast = k.multicast;
  security = k.security;
  source_route = true;
  destination = k.destination;
  extended_source = k.extended_source;
  end_device_initiator = k.end_device_initiator;
  reserved1 = k.reserved1;
}

-- "A source route sets flag, relay list, index n - 1 and suppressed discovery"
abbrev pub source_routed : NwkHeader → RelayList → NwkHeader
source_routed h relays = record {
  frame_control = routed_control h.frame_control;
  destination = h.destination;
  source = h.source;
  radius = h.radius;
  sequence_number = h.sequence_number;
  destination_ieee = h.destination_ieee;
  source_ieee = h.source_ieee;
  multicast_control = h.multicast_control;
  has_source_route = true;
  source_route = record { relay_index = relays.count - 1; relays = relays };
}

-- 05-3474, section 3.3.1.1.8: the end device initiator bit cleared
abbrev pub relayed_control : NwkFrameControl → NwkFrameControl
relayed_control k = record {
  frame_type = k.frame_type;
  protocol_version = k.protocol_version;
  discover_route = k.discover_route;
  multicast = k.multicast;
  security = k.security;
  source_route = k.source_route;
  destination = k.destination;
  extended_source = k.extended_source;
  end_device_initiator = false;
  reserved1 = k.reserved1;
}

abbrev pub initiator_cleared : NwkHeader → NwkHeader
initiator_cleared h = record {
  frame_control = relayed_control h.frame_control;
  destination = h.destination;
  source = h.source;
  radius = h.radius;
  sequence_number = h.sequence_number;
  destination_ieee = h.destination_ieee;
  source_ieee = h.source_ieee;
  multicast_control = h.multicast_control;
  has_source_route = h.has_source_route;
  source_route = h.source_route;
}
