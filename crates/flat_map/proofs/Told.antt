-- A test of every element, computed, tells what it tests.
use Prim.Native.Nat.{ℕ, zero, suc, ◌≤◌, zero-le, suc-le-suc}
use native.Mathlib.Omega.{arith}
use native.Mathlib.Nat.{le_of_suc-le-suc}
use mathlib.Core.Bool.{Bool}
use mathlib.Core.List.{List, [], ◌∷◌}
use mathlib.Core.Path.{◌≡◌, refl}
use lib.ListN.{get_or, drop}
use Rattle.standard.specs.Tells.{Tells}
use Rattle.standard.proofs.Tells.{yes-so, tells_both, tells-so}
use Rattle.flat_map.specs.Table.{every}

-- every element from n on is b, where the test tells b
pub every-told : {A : Type 0} (b : A) (test : A → Bool) → ((x : A) → Tells (x ≡ b) (test x)) → (xs : List A) (n : ℕ)
    → Tells ((i : ℕ) → n ≤ i → get_or xs i b ≡ b) (every test (drop n xs))
every-told b test t [] zero = yes-so (λ i h. refl)
every-told b test t [] (suc n) = yes-so (λ i h. refl)
every-told b test t (x ∷ xs) zero = tells-so all parts (tells_both (t x) (every-told b test t xs zero)) where
  all : (x ≡ b) × ((i : ℕ) → zero ≤ i → get_or xs i b ≡ b) → (i : ℕ) → zero ≤ i → get_or (x ∷ xs) i b ≡ b
  all p zero h = p.0
  all p (suc i) h = p.1 i zero-le

  parts : ((i : ℕ) → zero ≤ i → get_or (x ∷ xs) i b ≡ b) → (x ≡ b) × ((i : ℕ) → zero ≤ i → get_or xs i b ≡ b)
  parts q = (q 0 zero-le, λ i h. q (suc i) zero-le)
every-told b test t (x ∷ xs) (suc n) = tells-so all rest (every-told b test t xs n) where
  all : ((i : ℕ) → n ≤ i → get_or xs i b ≡ b) → (i : ℕ) → suc n ≤ i → get_or (x ∷ xs) i b ≡ b
  all p zero h = absurd (omega arith)
  all p (suc i) h = p i (le_of_suc-le-suc h)

  rest : ((i : ℕ) → suc n ≤ i → get_or (x ∷ xs) i b ≡ b) → (i : ℕ) → n ≤ i → get_or xs i b ≡ b
  rest q i h = q (suc i) (suc-le-suc h)
