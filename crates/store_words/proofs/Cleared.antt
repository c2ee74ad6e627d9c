-- A number put at no place leaves a store as it was, by induction over the places.
-- Assumes nothing.
use Prim.Native.Nat.{ℕ, zero, suc, ◌≤◌}
use mathlib.Core.List.{List, [], ◌∷◌}
use mathlib.Core.Path.{◌≡◌, refl, ap}
use lib.ListN.{length, set}
use native.Mathlib.Nat.{le_of_suc-le-suc, not-suc-le-zero}

-- a place that a store lacks
pub nowhere : (s : List ℕ) (i v : ℕ) → length s ≤ i → s ≡ set s i v
nowhere [] zero v h = refl
nowhere [] (suc i) v h = refl
nowhere (x ∷ s) zero v h = absurd (not-suc-le-zero h)
nowhere (x ∷ s) (suc i) v h = ap (λ (r : List ℕ). x ∷ r) (nowhere s i v (le_of_suc-le-suc h))
