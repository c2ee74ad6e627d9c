-- A list read place by place into an array: a place past the list's end reads the blank, and what has no place is left out.
-- Assumes nothing.
use Prim.Native.Nat.{ℕ, zero, suc, ◌+◌, ◌<◌, ◌≤◌, min}
use mathlib.Core.List.{List, [], ◌∷◌, map}
use mathlib.Core.Logic.{⊎_elim}
use mathlib.Core.Path.{◌≡◌, refl}
use native.Mathlib.Nat.{le_of_suc-le-suc, not-suc-le-zero}
use native.Mathlib.Numerals.{add-one}
use native.Mathlib.Omega.{arith}
use lib.ListN.{take, get_or, set}
use lib.Seq.{take-nil}
use Rattle.flat_map.specs.Rows.{pad}
use Rattle.flat_map.proofs.Compare.{below_or_not}
use Rattle.flat_map.proofs.Rows.{cons}

module _ {A B : Type 0} (f : A → B) where
  pub read_next : (d : A) (n i : ℕ) (xs : List A) → i < n → set (pad n (f d) (map f (take i xs))) i (f (get_or xs i d)) ≡ pad n (f d) (map f (take (i + 1) xs))
  read_next d n i xs h = rw (add-one i) (go n i xs h) where
    go : (n i : ℕ) (xs : List A) → i < n → set (pad n (f d) (map f (take i xs))) i (f (get_or xs i d)) ≡ pad n (f d) (map f (take (suc i) xs))
    go zero i xs h = absurd (not-suc-le-zero h)
    go (suc n) zero [] h = refl
    go (suc n) (suc i) [] h = cons (f d) (rw take-nil at (go n i [] (le_of_suc-le-suc h)))
    go (suc n) zero (x ∷ xs) h = refl
    go (suc n) (suc i) (x ∷ xs) h = cons (f x) (go n i xs (le_of_suc-le-suc h))

  pub read-enough : (b : B) (n i m : ℕ) (xs : List A) → n ≤ i → n ≤ m → pad n b (map f (take i xs)) ≡ pad n b (map f (take m xs))
  read-enough b zero i m xs h k = refl
  read-enough b (suc n) zero m xs h k = absurd (not-suc-le-zero h)
  read-enough b (suc n) (suc i) zero xs h k = absurd (not-suc-le-zero k)
  read-enough b (suc n) (suc i) (suc m) [] h k = refl
  read-enough b (suc n) (suc i) (suc m) (x ∷ xs) h k = cons (f x) (read-enough b n i m xs (le_of_suc-le-suc h) (le_of_suc-le-suc k))

  -- as many as have a place are enough
  pub read-most : (b : B) (n m : ℕ) (xs : List A) → pad n b (map f (take (min m n) xs)) ≡ pad n b (map f (take m xs))
  read-most b n m xs = ⊎_elim (λ (h : m < n). let e : min m n ≡ m = omega arith in rw e) (λ (h : n ≤ m). read-enough b n (min m n) m xs (omega arith) h) (below_or_not m n)
