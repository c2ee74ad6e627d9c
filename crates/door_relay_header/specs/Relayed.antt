-- The header of a frame that a router relays, which the caller keeps. Of it the call is lent the source, whether there is a source route and of how many
-- relays, and the end device initiator bit. Of its other fields nothing is known, and what is said holds whatever they are: a header is given by a
-- header h, in which what is lent takes the place of h's own.
-- Document 01, "How each place should look": "a definition gives this paper's number and values for each of its cases".
-- Assumes nothing.
use Rattle.std.specs.Prelude.{ℕ, ◌≤◌, eqb, Result, Ok, Err, Bool}
use Rattle.types.specs.declared.Nwk.{Nwk}
use Rattle.numbers.specs.Said.{flag_number}
use Rattle.neighbors.specs.declared.Neighbors.{Neighbors}
use Rattle.frame.specs.declared.NwkHeader.{NwkHeader}
use Rattle.relay_header.specs.declared.ClearOutcome.{ClearOutcome}
use Rattle.relay_header.specs.Relayed.{cleared}
use Rattle.door.specs.Lent.{Reading, Asked, NotAsked}
use Rattle.door_neighbors.specs.Answers.{truth_status}
use Rattle.types.specs.declared.Refusal.{Refusal}

-- the header h with what is lent
abbrev pub header_in : Nwk → ℕ → ℕ → ℕ → NwkHeader → NwkHeader
header_in source has count bit h = record {
  frame_control = record {
    frame_type = h.frame_control.frame_type;
    protocol_version = h.frame_control.protocol_version;
    discover_route = h.frame_control.discover_route;
    multicast = h.frame_control.multicast;
    security = h.frame_control.security;
    source_route = h.frame_control.source_route;
    destination = h.frame_control.destination;
    extended_source = h.frame_control.extended_source;
    end_device_initiator = eqb bit 1;
    reserved1 = h.frame_control.reserved1;
  };
  destination = h.destination;
  source = source;
  radius = h.radius;
  sequence_number = h.sequence_number;
  destination_ieee = h.destination_ieee;
  source_ieee = h.source_ieee;
  multicast_control = h.multicast_control;
  has_source_route = eqb has 1;
  source_route = record { relay_index = h.source_route.relay_index; relays = record { count = count; addresses = h.source_route.relays.addresses } };
}

-- the bit in the header, and whether it was cleared
pub record ClearPlaces : Type 0 where
  pub bit : ℕ
  pub cleared : ℕ

abbrev pub clear_at : ℕ → ℕ → ClearPlaces
clear_at bit cleared = record { bit = bit; cleared = cleared }

abbrev pub clear_places : Result Bool Refusal → NwkHeader → ClearPlaces → ClearPlaces
clear_places (Ok b) h old = clear_at (flag_number h.frame_control.end_device_initiator) (flag_number b)
clear_places (Err why) h old = old

abbrev pub clear_numbers : Reading ClearOutcome ClearPlaces
clear_numbers = record { status = λ (x : ClearOutcome). truth_status x.answer; places = λ (x : ClearOutcome). clear_places x.answer x.header }

-- what the call is made on
pub record Relaying : Type 0 where
  pub neighbors : Neighbors
  pub header : NwkHeader

abbrev pub relaying : (Unit {0} → Neighbors) → Nwk → ℕ → ℕ → ℕ → NwkHeader → Relaying
relaying neighbors source has count bit h = record { neighbors = neighbors tt; header = header_in source has count bit h }

abbrev pub clear_on : Relaying → ClearOutcome
clear_on s = cleared s.neighbors s.header

-- a flag above 1 is no call, whatever the state
pub record ClearAsked (neighbors : Unit {0} → Neighbors) (source : Nwk) (has count : ℕ) (old new : ClearPlaces) (r : ℕ) : Type 0 where
  pub call : has ≤ 1 → old.bit ≤ 1 → Asked clear_numbers clear_on (relaying neighbors source has count old.bit) old new r
  pub none : ((has ≤ 1) × (old.bit ≤ 1) → ⊥) → NotAsked old new r
