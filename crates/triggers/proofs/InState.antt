-- The record and the routing state agree: each of the state's three calls on its counters is the record's step on the two counters that the state holds, put back in it. Both sides compute to the same.
-- Assumes nothing.
use Rattle.std.specs.Prelude.{Ok}
use mathlib.Core.Path.{◌≡◌, refl}
use Prim.Native.Nat.{ℕ}
use Rattle.routing.specs.declared.Routing.{Routing}
use Rattle.routing.specs.declared.DoneOutcome.{DoneOutcome}
use Rattle.routing.specs.declared.ToldOutcome.{ToldOutcome}
use Rattle.routing.specs.Queries.{note_route_error_core, note_delivery_failure_core, reset_mtorr_triggers_core}
use Rattle.routing.specs.State.{with_triggers}
use Rattle.triggers.specs.declared.Triggers.{Triggers}
use Rattle.triggers.specs.declared.Noted.{Noted}
use Rattle.triggers.specs.Triggers.{counters_of, noted_error, noted_failure, zeroed}

-- the counters that a state holds, and the state with other counters
abbrev held : Routing → Triggers
held s = counters_of s.mtorr_route_errors s.mtorr_delivery_failures

abbrev holding : Routing → Triggers → Routing
holding s t = with_triggers s t.mtorr_route_errors t.mtorr_delivery_failures

-- an answer with its counters, as the state's calls give it
abbrev told_in : Routing → Noted → ToldOutcome
told_in s r = record { answer = Ok r.told; state = holding s r.counters }

abbrev done-in : Routing → Triggers → DoneOutcome
done-in s t = record { answer = Ok tt; state = holding s t }

pub error-agrees : (s : Routing) (threshold : ℕ) → note_route_error_core s threshold ≡ told_in s (noted_error (held s) threshold)
error-agrees s threshold = refl

pub failure-agrees : (s : Routing) (threshold : ℕ) → note_delivery_failure_core s threshold ≡ told_in s (noted_failure (held s) threshold)
failure-agrees s threshold = refl

pub reset-agrees : (s : Routing) → reset_mtorr_triggers_core s ≡ done-in s zeroed
reset-agrees s = refl
