-- The ring of samples as numbers: what each call makes of it, and which rings are well formed.
-- Assumes nothing.
use Rattle.std.specs.Prelude.{ℕ, ◌+◌, ◌%◌, ◌≤◌, ◌<◌, min, Bool, true, not, cond, ◌&&◌, ◌||◌, List, [], ◌∷◌, ◌++◌, ◌≡◌, eqb, leb, ltb, length, take, drop, set, replicate}
use Rattle.ring_buffer.specs.declared.RingBuffer.{RingBuffer}

-- no sample held
abbrev pub fresh : RingBuffer
fresh = record { values = replicate 3 0; len = 0; next = 0 }

-- the next place holds the value, the place after it is next, and one more is held, three at most. Places count round.
abbrev pub after_push : RingBuffer → ℕ → RingBuffer
after_push r value = record {
  values = set r.values (r.next % 3) value;
  len = min (r.len + 1) 3;
  next = (r.next + 1) % 3;
}

-- the ring after a list of pushes, in their order
abbrev pub after_all : RingBuffer → List ℕ → RingBuffer
after_all r [] = r
after_all r (v ∷ vs) = after_all (after_push r v) vs

-- the samples held, oldest first: a ring that is not full starts at the first place, and a full one at the next
abbrev pub held : RingBuffer → List ℕ
held r = cond (ltb r.len 3) (take r.len r.values) (drop r.next r.values ++ take r.next r.values)

-- every number of a list is 0
abbrev pub all_zero : List ℕ → Bool
all_zero [] = true
all_zero (x ∷ xs) = eqb x 0 && all_zero xs

-- document 01, "Refusal numbers": "sample count at most 3, the next place equal to a count below 3 and any of 0 to 2 at count 3,
-- unused places blank". That there are three places is what the array's type gives
pub record WellFormed (r : RingBuffer) : Type 0 where
  pub places : length r.values ≡ 3
  pub count : r.len ≤ 3
  pub filling : r.len < 3 → r.next ≡ r.len
  pub full : r.len ≡ 3 → r.next < 3
  pub blank : all_zero (drop r.len r.values) ≡ true

-- `WellFormed`, computed
abbrev pub well_formed : RingBuffer → Bool
well_formed r =
    eqb (length r.values) 3
    && leb r.len 3
    && (not (ltb r.len 3) || eqb r.next r.len)
    && (not (eqb r.len 3) || ltb r.next 3)
    && all_zero (drop r.len r.values)
