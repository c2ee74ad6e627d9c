-- Values put one after another. Putting two lists is putting the first and then the second, so a loop puts each element's values in turn.
-- Each law is an induction over the list.
use Prim.Native.Nat.{ℕ, ◌+◌, ◌≤◌, ◌<◌, min}
use mathlib.Core.List.{List, [], ◌∷◌, ◌++◌, flat_map}
use mathlib.Core.Path.{◌≡◌, refl, sym, ap, ◌∙◌}
use native.Mathlib.Omega.{arith}
use lib.ListN.{length, take, drop, get_or, length-take}
use lib.Seq.{get_or-take}
use Rattle.flat_map.proofs.Query.{rest-step, rest-done}
use Rattle.numbers.specs.declared.Numbers.{Numbers}
use Rattle.numbers.specs.Said.{pushed, pushed_all}

pub in-turn : (n : Numbers) (xs ys : List ℕ) → pushed_all (pushed_all n xs) ys ≡ pushed_all n (xs ++ ys)
in-turn n [] ys = refl
in-turn n (x ∷ xs) ys = in-turn (pushed n x) xs ys

-- the values of the elements from a place on
abbrev pub from : {E : Type 0} → (E → List ℕ) → List E → ℕ → ℕ → List ℕ
from f xs n i = flat_map f (drop i (take n xs))

module _ {E : Type 0} (f : E → List ℕ) (xs : List E) (n : ℕ) where
  -- one element more
  pub next : (m : Numbers) (i : ℕ) (d : E) → i < min n (length xs) → pushed_all m (from f xs n i) ≡ pushed_all (pushed_all m (f (get_or xs i d))) (from f xs n (i + 1))
  unfolding flat_map
  next m i d h =
      ap (λ (l : List E). pushed_all m (flat_map f l)) (rest-step (take n xs) i d (omega (arith, length-take n xs)))
      ∙ ap (λ (x : E). pushed_all m (f x ++ from f xs n (i + 1))) (get_or-take n xs i d (omega arith))
      ∙ sym (in-turn m (f (get_or xs i d)) (from f xs n (i + 1)))

  -- none is left
  pub all_done : (m : Numbers) (i : ℕ) → min n (length xs) ≤ i → pushed_all m (from f xs n i) ≡ m
  unfolding flat_map
  all_done m i h = ap (λ (l : List E). pushed_all m (flat_map f l)) (rest-done (take n xs) i (omega (arith, length-take n xs)))
