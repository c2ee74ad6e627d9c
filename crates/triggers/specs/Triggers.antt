-- The two trigger counters as a record of their own: what a signal and a reset make of them.
-- Document 01, "Route rules": "the two trigger counters at 255. A trigger fires at or above its threshold."
-- Assumes nothing.
use Rattle.std.specs.Prelude.{ℕ, Bool, false, cond, eqb}
use Rattle.routing.specs.Queries.{next_count, fires_at}
use Rattle.triggers.specs.declared.Triggers.{Triggers}
use Rattle.triggers.specs.declared.Noted.{Noted}

-- the two counts as a record
abbrev pub counters_of : ℕ → ℕ → Triggers
counters_of errors failures = record { mtorr_route_errors = errors; mtorr_delivery_failures = failures }

-- an answer and the counters left behind it, as one value
abbrev pub noted : Bool → Triggers → Noted
noted b t = record { told = b; counters = t }

-- a route failure was heard: its count goes up, and whether it fires is told
abbrev pub noted_error : Triggers → ℕ → Noted
noted_error t threshold = noted (fires_at (next_count t.mtorr_route_errors) threshold) (counters_of (next_count t.mtorr_route_errors) t.mtorr_delivery_failures)

-- a delivery of our own failed: its count goes up, and whether it fires is told
abbrev pub noted_failure : Triggers → ℕ → Noted
noted_failure t threshold = noted (fires_at (next_count t.mtorr_delivery_failures) threshold) (counters_of t.mtorr_route_errors (next_count t.mtorr_delivery_failures))

-- a many-to-one request went out: the signals are spent
abbrev pub zeroed : Triggers
zeroed = counters_of 0 0

-- the step that a number names: 0 notes a route failure, 1 a failed delivery, and any other number spends the signals and tells nothing
abbrev pub counted_by : ℕ → Triggers → ℕ → Noted
counted_by signal t threshold = cond (eqb signal 0) (noted_error t threshold) (cond (eqb signal 1) (noted_failure t threshold) (noted false zeroed))
