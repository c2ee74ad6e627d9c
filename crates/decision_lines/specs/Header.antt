-- A network header read from numbers, from a place on.
-- HEADER: FTYPE VERSION DISCOVER MCAST SECURITY SRCROUTE DESTIEEE SRCIEEE ENDDEV RESERVED DEST SOURCE RADIUS SEQ, two extended addresses and
-- the multicast control that may be given, and a source route that may be given: its index and its relays.
-- Assumes nothing.
use Rattle.std.specs.Prelude.{ℕ, ◌+◌, min, cond, List, [], ◌∷◌, get_or, Option, Some, None}
use Rattle.numbers.specs.Read.{number_at, byte_at, flag_at, nwk_at, eui64_at}
use Rattle.child_arguments.specs.Arguments.{past}
use Rattle.route_args.specs.Read.{relays_at}
use Rattle.frame.specs.declared.NwkFrameType.{NwkFrameType}
use Rattle.frame.specs.declared.NwkFrameType.TheVariants.{Data, Command, Interpan}
use Rattle.frame.specs.declared.NwkRouteDiscovery.{NwkRouteDiscovery}
use Rattle.frame.specs.declared.NwkRouteDiscovery.TheVariants.{Suppress, Enable, WithMulticast}
use Rattle.frame.specs.declared.NwkFrameControl.{NwkFrameControl}
use Rattle.frame.specs.declared.NwkSourceRoute.{NwkSourceRoute}
use Rattle.frame.specs.declared.NwkHeader.{NwkHeader}
use Rattle.types.specs.declared.Eui64.{Eui64}

-- the frame type of a number; 2 is no type and is kept out before
abbrev pub frame_type_of : ℕ → NwkFrameType
frame_type_of n = get_or (Data ∷ Command ∷ Command ∷ Interpan ∷ []) (min n 3) Data

abbrev pub discovery_of : ℕ → NwkRouteDiscovery
discovery_of n = get_or (Suppress ∷ Enable ∷ WithMulticast ∷ []) (min n 2) Suppress

unfoldable pub control_at : List ℕ → ℕ → NwkFrameControl
control_at args i = record {
  frame_type = frame_type_of (number_at args i);
  protocol_version = byte_at args (i + 1);
  discover_route = discovery_of (number_at args (i + 2));
  multicast = flag_at args (i + 3);
  security = flag_at args (i + 4);
  source_route = flag_at args (i + 5);
  destination = flag_at args (i + 6);
  extended_source = flag_at args (i + 7);
  end_device_initiator = flag_at args (i + 8);
  reserved1 = byte_at args (i + 9);
}

abbrev pub optional_eui64_at : List ℕ → ℕ → Option Eui64
optional_eui64_at args i = cond (flag_at args i) (Some (eui64_at args (i + 1))) None

abbrev pub optional_byte_at : List ℕ → ℕ → Option ℕ
optional_byte_at args i = cond (flag_at args i) (Some (byte_at args (i + 1))) None

-- a source route after the number that says whether there is one; where there is none, nothing stands there
abbrev pub route_at : List ℕ → ℕ → NwkSourceRoute
route_at args i = record { relay_index = byte_at args (i + 1); relays = relays_at args (i + 2) }

-- a header whose values that may be given stand at i, j, k, and its source route at l
abbrev pub header_with : List ℕ → ℕ → ℕ → ℕ → ℕ → ℕ → NwkHeader
header_with args from i j k l = record {
  frame_control = control_at args from;
  destination = nwk_at args (from + 10);
  source = nwk_at args (from + 11);
  radius = byte_at args (from + 12);
  sequence_number = byte_at args (from + 13);
  destination_ieee = optional_eui64_at args i;
  source_ieee = optional_eui64_at args j;
  multicast_control = optional_byte_at args k;
  has_source_route = flag_at args l;
  source_route = route_at args l;
}

unfoldable pub header_at : List ℕ → ℕ → NwkHeader
header_at args from =
    header_with args from (from + 14) (past args (from + 14)) (past args (past args (from + 14))) (past args (past args (past args (from + 14))))
