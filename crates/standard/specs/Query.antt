-- Questions to rows, and a change of the first that fits: what the Rust writes as find, any, filter and count.
-- Assumes nothing.
use Rattle.std.specs.Prelude.{ℕ, zero, suc, Bool, true, false, cond, ◌||◌, List, [], ◌∷◌, Option, Some, None}

module _ {E : Type 0} (fits : E → Bool) where
  -- the first row that fits
  unfoldable pub first : List E → Option E
  first [] = None
  first (x ∷ xs) = cond (fits x) (Some x) (first xs)

  -- whether one fits
  unfoldable pub some_fits : List E → Bool
  some_fits [] = false
  some_fits (x ∷ xs) = fits x || some_fits xs

  -- how many fit
  unfoldable pub count_fits : List E → ℕ
  count_fits [] = 0
  count_fits (x ∷ xs) = cond (fits x) (suc (count_fits xs)) (count_fits xs)

  -- f applied to the first that fits
  unfoldable pub change_first : (E → E) → List E → List E
  change_first f [] = []
  change_first f (x ∷ xs) = cond (fits x) (f x ∷ xs) (x ∷ change_first f xs)

-- whether a row was found
abbrev pub is_there : {E : Type 0} → Option E → Bool
is_there None = false
is_there (Some x) = true

-- "a count and the entry at a place, nothing from the count on": document 01, "Shapes that must change"
unfoldable pub entry_at : {E : Type 0} → ℕ → List E → Option E
entry_at i [] = None
entry_at zero (x ∷ xs) = Some x
entry_at (suc i) (x ∷ xs) = entry_at i xs
