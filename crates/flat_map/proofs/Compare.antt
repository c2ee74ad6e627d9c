-- Two numbers stand in one of three ways, and in one of two.
-- Both are read off the computed comparisons.
use Prim.Native.Nat.{ℕ, ◌<◌, ◌≤◌}
use mathlib.Core.Bool.{Bool, true, false}
use mathlib.Core.Logic.{◌⊎◌, inl, inr}
use mathlib.Core.Path.{◌≡◌, refl}
use lib.Dec.{ltb}
use native.Mathlib.Omega.{arith}
use borrow.Author.Tests.{ltb-true, ltb-false}

pub data Tri (k a : ℕ) : Type 0 where
  lt : k < a → Tri k a
  eq : k ≡ a → Tri k a
  gt : a < k → Tri k a

pub below_or_not : (k a : ℕ) → (k < a) ⊎ (a ≤ k)
below_or_not k a = go (ltb k a) refl where
  go : (b : Bool) → ltb k a ≡ b → (k < a) ⊎ (a ≤ k)
  go true e = inl (ltb-true k a e)
  go false e = inr (ltb-false k a e)

pub tri : (k a : ℕ) → Tri k a
tri k a = go (below_or_not k a) (below_or_not a k) where
  go : (k < a) ⊎ (a ≤ k) → (a < k) ⊎ (k ≤ a) → Tri k a
  go (inl h) g = lt h
  go (inr h) (inl g) = gt g
  go (inr h) (inr g) = eq (omega arith)
