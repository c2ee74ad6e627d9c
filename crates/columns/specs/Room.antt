-- Whether a row under a key has room: where the key is found, and else where a place is free.
-- Assumes nothing.
use Rattle.std.specs.Prelude.{ℕ, Bool, true, ltb, Result, Ok, Err}

abbrev pub room_for : Result ℕ ℕ → ℕ → ℕ → Bool
room_for (Ok i) count cap = true
room_for (Err i) count cap = ltb count cap
