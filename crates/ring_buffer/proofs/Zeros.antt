-- The library's test of every element, asked of zeros, is the definition's.
use Rattle.std.specs.Prelude.{ℕ, Bool, List, [], ◌∷◌, ◌&&◌, ◌==◌, ◌≡◌, refl}
use Rattle.std.specs.List.{list_all}
use mathlib.Core.Path.{ap}
use Rattle.ring_buffer.specs.Ring.{all_zero}

pub all_are : (xs : List ℕ) → list_all (λ x. x == 0) xs ≡ all_zero xs
all_are [] = refl
all_are (x ∷ xs) = ap (λ (b : Bool). (x == 0) && b) (all_are xs)
