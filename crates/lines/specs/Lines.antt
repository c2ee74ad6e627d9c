-- Lines in a row, and the one at a place: no call from the last on.
-- Assumes nothing.
use Rattle.std.specs.Prelude.{ℕ, zero, suc, List, [], ◌∷◌}
use Rattle.numbers.specs.Said.{Said, ok, bad}

abbrev pub line_said : List (List ℕ) → ℕ → Said
line_said [] i = bad
line_said (x ∷ xs) zero = ok x
line_said (x ∷ xs) (suc i) = line_said xs i

-- each element with its place, counted from one
abbrev pub each_from : {A : Type 0} → ℕ → (ℕ → A → List ℕ) → List A → List (List ℕ)
each_from k f [] = []
each_from k f (x ∷ xs) = f k x ∷ each_from (suc k) f xs
