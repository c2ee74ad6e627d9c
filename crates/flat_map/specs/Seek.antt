-- Where a key stands in a list of ascending keys, or where it would stand.
-- Assumes nothing.
use Rattle.std.specs.Prelude.{ℕ, suc, cond, List, [], ◌∷◌, ltb, eqb, Result, Ok, Err}

-- the same place, counted from one key earlier
abbrev pub next : Result ℕ ℕ → Result ℕ ℕ
next (Ok i) = Ok (suc i)
next (Err i) = Err (suc i)

-- the place of the first key that is not below k: `Found` where it is k, else `Missing`
abbrev pub place_of : List ℕ → ℕ → Result ℕ ℕ
place_of [] k = Err 0
place_of (x ∷ xs) k = cond (eqb x k) (Ok 0) (cond (ltb k x) (Err 0) (next (place_of xs k)))
