-- Numbers beyond those that a list has places for leave its places as they are.
use Prim.Native.Nat.{ℕ, zero, suc, ◌≤◌}
use native.Mathlib.Omega.{arith}
use mathlib.Core.List.{List, [], ◌∷◌, map}
use mathlib.Core.Path.{◌≡◌, refl, ap}
use borrow.Author.Tests.{ltb-true, ltb-false}
use lib.Dec.{ltb}
use lib.ListN.{length, take}
use lib.Seq.{take_all}
use Rattle.standard.proofs.Picked.{both_by}
use Rattle.flat_map.specs.Rows.{pad}
use Rattle.flat_map.proofs.Rows.{cons}
use Rattle.door_lists.specs.Lists.{filled}

-- the places that n numbers fill are no more than 64, nor than n
pub filled-few : (n : ℕ) → (filled n ≤ 64) × (filled n ≤ n)
filled-few n =
    both_by (λ (m : ℕ) (_ : ℕ). (m ≤ 64) × (m ≤ n)) (ltb 64 n) 64 n 64 n (λ e. (omega arith, omega (arith, ltb-true 64 n e)))
    (λ e. (omega (arith, ltb-false 64 n e), omega arith))

module _ {A B : Type 0} (f : A → B) (b : B) where
  pad-take : (n : ℕ) (xs : List A) → pad n b (map f (take n xs)) ≡ pad n b (map f xs)
  pad-take zero xs = refl
  pad-take (suc n) [] = refl
  pad-take (suc n) (x ∷ xs) = cons (f x) (pad-take n xs)

  pub pad-filled : (xs : List A) → pad 64 b (map f (take (filled (length xs)) xs)) ≡ pad 64 b (map f xs)
  pad-filled xs =
      both_by (λ (m : ℕ) (_ : ℕ). pad 64 b (map f (take m xs)) ≡ pad 64 b (map f xs)) (ltb 64 (length xs)) 64 (length xs) 64 (length xs)
      (λ _. pad-take 64 xs)
      (λ _. ap (λ ys. pad 64 b (map f ys)) (take_all (length xs) xs (omega arith)))
