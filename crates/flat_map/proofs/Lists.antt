-- Rows by their places: what stands there does not depend on what is read past the end.
-- Each law is an induction over the rows before the place.
use Prim.Native.Nat.{ℕ, zero, suc, ◌<◌, ◌≤◌}
use native.Mathlib.Nat.{le_of_suc-le-suc, not-suc-le-zero}
use native.Mathlib.Omega.{arith}
use mathlib.Core.List.{List, [], ◌∷◌}
use mathlib.Core.Path.{◌≡◌, refl}
use lib.ListN.{length, get_or}
use Rattle.standard.specs.Ordered.{pop_first}
use Rattle.flat_map.specs.Rows.{remove_at}

module _ {E : Type 0} where
  -- read within its length, a list does not give the default
  pub any-default : (xs : List E) (i : ℕ) (a b : E) → i < length xs → get_or xs i a ≡ get_or xs i b
  any-default [] i a b h = absurd (not-suc-le-zero h)
  any-default (x ∷ xs) zero a b h = refl
  any-default (x ∷ xs) (suc i) a b h = any-default xs i a b (le_of_suc-le-suc h)

  -- taking the first row out is taking out the row at place 0
  pub popped : (xs : List E) → remove_at 0 xs ≡ pop_first xs
  popped [] = refl
  popped (x ∷ xs) = refl

  pub popped-length : (xs : List E) → length (pop_first xs) ≤ length xs
  popped-length [] = omega arith
  popped-length (x ∷ xs) = omega arith

  pub popped-none : (xs : List E) → length xs ≡ 0 → pop_first xs ≡ xs
  popped-none [] h = refl
  popped-none (x ∷ xs) h = absurd (omega arith)
