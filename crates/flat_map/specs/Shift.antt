-- Arrays that keep their length while an element goes in or out.
-- Assumes nothing.
use Rattle.std.specs.Prelude.{ℕ, zero, suc, List, [], ◌∷◌, ◌++◌}

module _ {ℓ} {A : Type ℓ} where
  -- shift right: a stands at i, what stood from i on one place further, and the last is gone
  abbrev pub shift_in : ℕ → A → List A → List A
  shift_in i a [] = []
  shift_in zero a (x ∷ xs) = a ∷ shift_in zero x xs
  shift_in (suc i) a (x ∷ xs) = x ∷ shift_in i a xs

  -- shift left: what stood at i is gone, what stood after it one place nearer, and b is the last
  abbrev pub shift_out : ℕ → A → List A → List A
  shift_out i b [] = []
  shift_out zero b (x ∷ xs) = xs ++ (b ∷ [])
  shift_out (suc i) b (x ∷ xs) = x ∷ shift_out i b xs
