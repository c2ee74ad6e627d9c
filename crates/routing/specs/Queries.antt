-- The exported calls that ask, and the two trigger counters: refusal 10 for a state that is not well formed.
-- Document 01, "Route rules", "Refusal numbers", and the table check of "Modules, leaves first".
-- Assumes nothing.
use Rattle.std.specs.Prelude.{ℕ, ◌+◌, min, Bool, cond, List, leb, length, Option, Result, Ok, Err}
use Rattle.types.specs.declared.Nwk.{Nwk}
use Rattle.types.specs.declared.Refusal.TheVariants.{StateIllFormed}
use Rattle.standard.specs.declared.DiscoveryEntry.{DiscoveryEntry}
use Rattle.standard.specs.Calls.{status_at, hop_at, first_fault}
use Rattle.standard.specs.Discovery.{awaits}
use Rattle.standard.specs.Query.{first, entry_at}
use Rattle.discovery_table.specs.Table as discoveries
use Rattle.discovery_table.specs.Table.{deadline_of}
use Rattle.route_calls.specs.Answer.{hop_answer, checked_by}
use Rattle.routing.specs.declared.Routing.{Routing}
use Rattle.routing.specs.declared.DoneOutcome.{DoneOutcome}
use Rattle.routing.specs.declared.ToldOutcome.{ToldOutcome}
use Rattle.routing.specs.Routes.{routes_in, refused_done, refused_told}
use Rattle.routing.specs.State.{well_formed, discovery_table, with_triggers}
use Rattle.types.specs.declared.Refusal.{Refusal}
use Rattle.standard.specs.declared.RouteEntry.{RouteEntry}
use Rattle.standard.specs.declared.Status.{Status}
use Rattle.route_calls.specs.declared.Checked.{Checked}

-- the discoveries of a state
abbrev pub discoveries_in : Routing → List DiscoveryEntry
discoveries_in s = discoveries.rows_of (discovery_table s)

-- How the route to a destination stands.
abbrev pub route_status_core : Routing → Nwk → Result (Option Status) Refusal
route_status_core s destination = Ok (status_at destination.0 (routes_in s))

unfoldable pub route_status : Routing → Nwk → Result (Option Status) Refusal
route_status s destination = cond (well_formed s) (route_status_core s destination) (Err StateIllFormed)

-- When the first live discovery of the way to a destination is over.
abbrev pub discovery_deadline_core : Routing → Nwk → ℕ → Result (Option ℕ) Refusal
discovery_deadline_core s destination now = Ok (deadline_of (first (awaits destination.0 now) (discoveries_in s)))

unfoldable pub discovery_deadline : Routing → Nwk → ℕ → Result (Option ℕ) Refusal
discovery_deadline s destination now = cond (well_formed s) (discovery_deadline_core s destination now) (Err StateIllFormed)

-- How many routes there are.
abbrev pub route_count_core : Routing → Result ℕ Refusal
route_count_core s = Ok (length (routes_in s))

unfoldable pub route_count : Routing → Result ℕ Refusal
route_count s = cond (well_formed s) (route_count_core s) (Err StateIllFormed)

-- How many discoveries there are.
abbrev pub discovery_count_core : Routing → Result ℕ Refusal
discovery_count_core s = Ok (length (discoveries_in s))

unfoldable pub discovery_count : Routing → Result ℕ Refusal
discovery_count s = cond (well_formed s) (discovery_count_core s) (Err StateIllFormed)

-- The route at a place in ascending order, and nothing from the count on.
abbrev pub route_at_core : Routing → ℕ → Result (Option RouteEntry) Refusal
route_at_core s place = Ok (entry_at place (routes_in s))

unfoldable pub route_at : Routing → ℕ → Result (Option RouteEntry) Refusal
route_at s place = cond (well_formed s) (route_at_core s place) (Err StateIllFormed)

-- The discovery at a place in ascending order, and nothing from the count on.
abbrev pub discovery_at_core : Routing → ℕ → Result (Option DiscoveryEntry) Refusal
discovery_at_core s place = Ok (entry_at place (discoveries_in s))

unfoldable pub discovery_at : Routing → ℕ → Result (Option DiscoveryEntry) Refusal
discovery_at s place = cond (well_formed s) (discovery_at_core s place) (Err StateIllFormed)

-- The table check: sound, or the first fault in ascending order of destination.
abbrev pub check_tables_core : Routing → Result Checked Refusal
check_tables_core s = Ok (checked_by (first_fault (discoveries_in s) (routes_in s)))

unfoldable pub check_tables : Routing → Result Checked Refusal
check_tables s = cond (well_formed s) (check_tables_core s) (Err StateIllFormed)

-- The next hop to a destination by its Active route.
abbrev pub next_hop_core : Routing → Nwk → Result (Option Nwk) Refusal
next_hop_core s destination = hop_answer (hop_at destination.0 (routes_in s))

unfoldable pub next_hop_of : Routing → Nwk → Result (Option Nwk) Refusal
next_hop_of s destination = cond (well_formed s) (next_hop_core s destination) (Err StateIllFormed)

-- "the two trigger counters at 255"
abbrev pub next_count : ℕ → ℕ
next_count n = min (n + 1) 255

-- "A trigger fires at or above its threshold."
abbrev pub fires_at : ℕ → ℕ → Bool
fires_at n threshold = leb threshold n

-- A route failure was heard: whether the signals reach the threshold.
abbrev pub note_route_error_core : Routing → ℕ → ToldOutcome
note_route_error_core s threshold = record {
  answer = Ok (fires_at (next_count s.mtorr_route_errors) threshold);
  state = with_triggers s (next_count s.mtorr_route_errors) s.mtorr_delivery_failures;
}

unfoldable pub note_route_error : Routing → ℕ → ToldOutcome
note_route_error s threshold = cond (well_formed s) (note_route_error_core s threshold) (refused_told s StateIllFormed)

-- A delivery of our own failed: whether the signals reach the threshold.
abbrev pub note_delivery_failure_core : Routing → ℕ → ToldOutcome
note_delivery_failure_core s threshold = record {
  answer = Ok (fires_at (next_count s.mtorr_delivery_failures) threshold);
  state = with_triggers s s.mtorr_route_errors (next_count s.mtorr_delivery_failures);
}

unfoldable pub note_delivery_failure : Routing → ℕ → ToldOutcome
note_delivery_failure s threshold = cond (well_formed s) (note_delivery_failure_core s threshold) (refused_told s StateIllFormed)

-- A many-to-one request went out: the signals are spent.
abbrev pub reset_mtorr_triggers_core : Routing → DoneOutcome
reset_mtorr_triggers_core s = record { answer = Ok tt; state = with_triggers s 0 0 }

unfoldable pub reset_mtorr_triggers : Routing → DoneOutcome
reset_mtorr_triggers s = cond (well_formed s) (reset_mtorr_triggers_core s) (refused_done s)
