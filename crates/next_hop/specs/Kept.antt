-- What a decision may do to a header: nothing, or a source route set in it.
-- Document 01, "Decision (001) and neighbours (003)": "A source route sets flag, relay list, index n - 1 and suppressed discovery; .. Nothing else in the header changes."
-- Assumes nothing.
use Rattle.std.specs.Prelude.{ℕ, List, ◌≡◌, Result}
use Rattle.standard.specs.declared.RelayList.{RelayList}
use Rattle.routing.specs.declared.Routing.{Routing}
use Rattle.routing.specs.Records.{route_to_core}
use Rattle.frame.specs.declared.NwkHeader.{NwkHeader}
use Rattle.next_hop.specs.declared.SendMode.{SendMode}
use Rattle.next_hop.specs.declared.NextHop.{NextHop}
use Rattle.hop_choice.specs.declared.Policy.{Policy}
use Rattle.next_hop.specs.declared.ResolveOutcome.{ResolveOutcome}
use Rattle.next_hop.specs.Decision.{by_source_route}
use Rattle.types.specs.declared.Refusal.{Refusal}

-- every field that a source route does not name has its old value
pub record SameBesides (h k : NwkHeader) : Type 0 where
  pub kind : k.frame_control.frame_type ≡ h.frame_control.frame_type
  pub version : k.frame_control.protocol_version ≡ h.frame_control.protocol_version
  pub multicast : k.frame_control.multicast ≡ h.frame_control.multicast
  pub security : k.frame_control.security ≡ h.frame_control.security
  pub destination-bit : k.frame_control.destination ≡ h.frame_control.destination
  pub source-bit : k.frame_control.extended_source ≡ h.frame_control.extended_source
  pub initiator : k.frame_control.end_device_initiator ≡ h.frame_control.end_device_initiator
  pub reserved : k.frame_control.reserved1 ≡ h.frame_control.reserved1
  pub destination : k.destination ≡ h.destination
  pub source : k.source ≡ h.source
  pub radius : k.radius ≡ h.radius
  pub sequence : k.sequence_number ≡ h.sequence_number
  pub destination-name : k.destination_ieee ≡ h.destination_ieee
  pub source_name : k.source_ieee ≡ h.source_ieee
  pub control : k.multicast_control ≡ h.multicast_control

-- the relays that the route query names for the destination of a header
abbrev pub record_relays : Routing → NwkHeader → Policy → List ℕ → RelayList
record_relays r h p store = (route_to_core r h.destination p.max_source_route store).relays

-- the header as it came beside any answer, or a source route: the host's, or the one of the destination's record
pub data Shaped (r : Routing) (h : NwkHeader) (m : SendMode) (p : Policy) (store : List ℕ) : ResolveOutcome → Type 0 where
  kept : (a : Result NextHop Refusal) → Shaped r h m p store (record { answer = a; header = h })
  by-host : Shaped r h m p store (by_source_route h m.relays)
  by-record : Shaped r h m p store (by_source_route h (record_relays r h p store))
