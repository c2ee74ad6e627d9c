-- The clock's checked sum. Document 01, "Refusal numbers": refusal 5 is given where "a time sum .. passes 2^64 - 1".
-- Assumes nothing.
use Rattle.std.specs.Prelude.{ℕ, ◌+◌, cond, leb, Option, Some, None}

-- the last millisecond of the clock, 2^64 - 1
abbrev pub last_time : ℕ
last_time = 18446744073709551615

-- the moment `span` after `now`, or past the clock's end
abbrev pub time_sum : ℕ → ℕ → Option ℕ
time_sum now span = cond (leb (now + span) last_time) (Some (now + span)) None
