-- The header of a frame that a router relays: its end device initiator bit.
-- 05-3474, section 3.3.1.1.8: a router parent clears the bit when it relays a frame of one of its end device children.
-- Document 01, "Refusal numbers": 10, and 8 for a source route "already in the given header" of more than 32 relays.
-- Assumes nothing.
use Rattle.std.specs.Prelude.{Bool, true, false, cond, ◌&&◌, List, Ok, Err}
use Rattle.types.specs.declared.Nwk.{Nwk}
use Rattle.types.specs.declared.Refusal.{Refusal}
use Rattle.types.specs.declared.Refusal.TheVariants.{StateIllFormed, ListTooLong}
use Rattle.standard.specs.Query.{some_fits}
use Rattle.neighbor_table.specs.declared.NeighborEntry.{NeighborEntry}
use Rattle.neighbor_queries.specs.declared.Filter.TheVariants.{EndDeviceChildAt}
use Rattle.neighbor_queries.specs.Filter.{fits}
use Rattle.neighbors.specs.declared.Neighbors.{Neighbors}
use Rattle.neighbors.specs.State.{well_formed, rows}
use Rattle.frame.specs.declared.NwkHeader.{NwkHeader}
use Rattle.frame.specs.Header.{carries_long, initiator_cleared}
use Rattle.relay_header.specs.declared.ClearOutcome.{ClearOutcome}

-- "end device child (not merely any child)": some neighbour of that address is both
abbrev pub is_end_device_child : List NeighborEntry → Nwk → Bool
is_end_device_child near address = some_fits (fits (EndDeviceChildAt address)) near

abbrev pub told : Bool → NwkHeader → ClearOutcome
told answer h = record { answer = Ok answer; header = h }

-- "All hand back the given state, header and store unchanged and no other answer."
abbrev pub refused : Refusal → NwkHeader → ClearOutcome
refused why h = record { answer = Err why; header = h }

-- the bit is cleared where it is set and the frame's source is an end device child; any other header is left as it is
unfoldable pub cleared_on : List NeighborEntry → NwkHeader → ClearOutcome
cleared_on near h = cond (h.frame_control.end_device_initiator && is_end_device_child near h.source) (told true (initiator_cleared h)) (told false h)

unfoldable pub cleared : Neighbors → NwkHeader → ClearOutcome
cleared n h = cond (well_formed n) (cond (carries_long h) (refused ListTooLong h) (cleared_on (rows n) h)) (refused StateIllFormed h)
