-- The number of each case of a header's enums, and a header as the numbers that a script writes.
-- 05-3474, section 3.3.1.1: frame type 0, 1 and 3, discover route 0, 1 and 2.
-- Assumes nothing.
use Rattle.std.specs.Prelude.{ℕ, Bool, true, false, List, [], ◌∷◌, ◌++◌, map, take, Option, Some, None}
use Rattle.types.specs.declared.Nwk.{Nwk}
use Rattle.numbers.specs.Said.{flag_number}
use Rattle.frame.specs.declared.NwkFrameType.{NwkFrameType}
use Rattle.frame.specs.declared.NwkFrameType.TheVariants.{Data, Command, Interpan}
use Rattle.frame.specs.declared.NwkRouteDiscovery.{NwkRouteDiscovery}
use Rattle.frame.specs.declared.NwkRouteDiscovery.TheVariants.{Suppress, Enable, WithMulticast}
use Rattle.frame.specs.declared.NwkFrameControl.{NwkFrameControl}
use Rattle.frame.specs.declared.NwkSourceRoute.{NwkSourceRoute}
use Rattle.frame.specs.declared.NwkHeader.{NwkHeader}
use Rattle.types.specs.declared.Eui64.{Eui64}

abbrev pub frame_type_number : NwkFrameType → ℕ
frame_type_number Data = 0
frame_type_number Command = 1
frame_type_number Interpan = 3

abbrev pub discovery_number : NwkRouteDiscovery → ℕ
discovery_number Suppress = 0
discovery_number Enable = 1
discovery_number WithMulticast = 2

-- 0 for none, else 1 and the value
abbrev pub name_numbers : Option Eui64 → List ℕ
name_numbers None = 0 ∷ []
name_numbers (Some e) = 1 ∷ e.0 ∷ []

abbrev pub byte_numbers : Option ℕ → List ℕ
byte_numbers None = 0 ∷ []
byte_numbers (Some b) = 1 ∷ b ∷ []

abbrev pub control_numbers : NwkFrameControl → List ℕ
control_numbers k =
    frame_type_number k.frame_type
    ∷ k.protocol_version
    ∷ discovery_number k.discover_route
    ∷ flag_number k.multicast
    ∷ flag_number k.security
    ∷ flag_number k.source_route
    ∷ flag_number k.destination
    ∷ flag_number k.extended_source
    ∷ flag_number k.end_device_initiator
    ∷ k.reserved1
    ∷ []

-- no source route, or its index, how many relays, and the relays
abbrev pub route_numbers : Bool → NwkSourceRoute → List ℕ
route_numbers false r = 0 ∷ []
route_numbers true r = 1 ∷ r.relay_index ∷ r.relays.count ∷ map (λ (a : Nwk). a.0) (take r.relays.count r.relays.addresses)

unfoldable pub header_numbers : NwkHeader → List ℕ
header_numbers h =
    control_numbers h.frame_control
    ++ ((h.destination.0 ∷ h.source.0 ∷ h.radius ∷ h.sequence_number ∷ [])
    ++ (name_numbers h.destination_ieee
    ++ (name_numbers h.source_ieee
    ++ (byte_numbers h.multicast_control
    ++ route_numbers h.has_source_route h.source_route))))
