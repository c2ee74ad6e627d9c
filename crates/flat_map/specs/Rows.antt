-- Rows in an array, and what a loop over the places has still to do to them.
-- Assumes nothing.
use Rattle.std.specs.Prelude.{ℕ, zero, suc, Bool, List, [], ◌∷◌}
use Rattle.standard.specs.Ordered.{keep}

module _ {ℓ} {A : Type ℓ} where
  -- an array of n places that holds xs, the blank b in every place after them
  abbrev pub pad : ℕ → A → List A → List A
  pad zero b xs = []
  pad (suc n) b [] = b ∷ pad n b []
  pad (suc n) b (x ∷ xs) = x ∷ pad n b xs

  abbrev pub insert_at : ℕ → A → List A → List A
  insert_at zero a xs = a ∷ xs
  insert_at (suc i) a [] = a ∷ []
  insert_at (suc i) a (x ∷ xs) = x ∷ insert_at i a xs

  abbrev pub remove_at : ℕ → List A → List A
  remove_at i [] = []
  remove_at zero (x ∷ xs) = xs
  remove_at (suc i) (x ∷ xs) = x ∷ remove_at i xs

module _ {A : Type 0} where
  -- the first i rows as they are, and of the others those that pass
  abbrev pub keep_from : (A → Bool) → ℕ → List A → List A
  keep_from p zero xs = keep p xs
  keep_from p (suc i) [] = []
  keep_from p (suc i) (x ∷ xs) = x ∷ keep_from p i xs

  -- f applied to the first n elements
  abbrev pub map_first : (A → A) → ℕ → List A → List A
  map_first f zero xs = xs
  map_first f (suc n) [] = []
  map_first f (suc n) (x ∷ xs) = f x ∷ map_first f n xs

  -- f applied to those from i up to n
  abbrev pub map_from : (A → A) → ℕ → ℕ → List A → List A
  map_from f zero n xs = map_first f n xs
  map_from f (suc i) zero xs = xs
  map_from f (suc i) (suc n) [] = []
  map_from f (suc i) (suc n) (x ∷ xs) = x ∷ map_from f i n xs
