-- A table as mathematics: its rows, in strictly ascending order of their keys.
-- Document 01: "map with unique keys in ascending order"; look-up, insert and remove "have their usual map meaning".
-- Assumes nothing.
use Rattle.std.specs.Prelude.{ℕ, suc, ◌<◌, Bool, cond, List, [], ◌∷◌, map, ltb, eqb, length, Option, Some, None}

-- k is below the first key
abbrev pub Before : ℕ → List ℕ → Type 0
Before k [] = Unit {0}
Before k (x ∷ xs) = k < x

-- the keys go up strictly
abbrev pub Asc : List ℕ → Type 0
Asc [] = Unit {0}
Asc (x ∷ xs) = Before x xs × Asc xs

module _ {E : Type 0} (key_of : E → ℕ) where
  abbrev pub Ascending : List E → Type 0
  Ascending xs = Asc (map key_of xs)

  -- the row under the key k
  unfoldable pub lookup : ℕ → List E → Option E
  lookup k [] = None
  lookup k (x ∷ xs) = cond (eqb (key_of x) k) (Some x) (lookup k xs)

  -- the row e, over the one of its key or else at its place in the order
  unfoldable pub put : E → List E → List E
  put e [] = e ∷ []
  put e (x ∷ xs) = cond (ltb (key_of e) (key_of x)) (e ∷ x ∷ xs) (cond (eqb (key_of x) (key_of e)) (e ∷ xs) (x ∷ put e xs))

  -- how many rows there are once there is one under k
  unfoldable pub count_with : ℕ → List E → ℕ
  count_with k [] = 1
  count_with k (x ∷ xs) = cond (eqb (key_of x) k) (suc (length xs)) (suc (count_with k xs))

  -- without the row under the key k
  unfoldable pub remove : ℕ → List E → List E
  remove k [] = []
  remove k (x ∷ xs) = cond (eqb (key_of x) k) xs (x ∷ remove k xs)

module _ {E : Type 0} where
  -- without the first row
  abbrev pub pop_first : List E → List E
  pop_first [] = []
  pop_first (x ∷ xs) = xs

  -- the rows that pass a test: what `retain` leaves
  abbrev pub keep : (E → Bool) → List E → List E
  keep p [] = []
  keep p (x ∷ xs) = cond (p x) (x ∷ keep p xs) (keep p xs)
