-- A loop that shifts an array one place does the rest of the work at each turn:
-- each step law says that the rest, done after one turn, gives what the rest gave before it.
use Prim.Native.Nat.{ℕ, zero, suc, ◌+◌, ◌<◌, ◌≤◌}
use native.Mathlib.Nat.{le_of_suc-le-suc, not-suc-le-zero}
use native.Mathlib.Numerals.{add-one}
use native.Mathlib.Omega.{arith}
use mathlib.Core.List.{List, [], ◌∷◌, map}
use mathlib.Core.Path.{◌≡◌, refl, sym, ap, ◌∙◌}
use lib.ListN.{length, get_or, set, length-append, length-map}
use Rattle.flat_map.specs.Shift.{shift_in, shift_out}

-- the length of an array of structs, from what owning the array tells: for `search`'s list
pub unmapped : (X Y : Type 0) (f : X → Y) (l : List X) (n : ℕ) → length (map f l) ≡ n → length l ≡ n
unmapped X Y f l n e = sym (length-map l f) ∙ e

module _ {ℓ} {A : Type ℓ} where
  -- one turn: c goes in at j, and what stood there is carried to the next place
  pub shift-in-step : (xs : List A) (j : ℕ) (c d : A) → j < length xs → shift_in (j + 1) (get_or xs j d) (set xs j c) ≡ shift_in j c xs
  shift-in-step xs j c d h = rw (add-one j) (go xs j h) where
    go : (xs : List A) (j : ℕ) → j < length xs → shift_in (suc j) (get_or xs j d) (set xs j c) ≡ shift_in j c xs
    go [] j h = refl
    go (x ∷ xs) zero h = refl
    go (x ∷ xs) (suc j) h = ap {B = List A} (λ r. x ∷ r) (go xs j (le_of_suc-le-suc h))

  pub shift-in-end : (xs : List A) (j : ℕ) (c : A) → length xs ≤ j → shift_in j c xs ≡ xs
  shift-in-end [] j c h = refl
  shift-in-end (x ∷ xs) zero c h = absurd (not-suc-le-zero h)
  shift-in-end (x ∷ xs) (suc j) c h = ap {B = List A} (λ r. x ∷ r) (shift-in-end xs j c (le_of_suc-le-suc h))

  -- one turn: what stands after j is copied to j
  pub shift-out-step : (xs : List A) (j : ℕ) (b d : A) → j + 1 < length xs → shift_out (j + 1) b (set xs j (get_or xs (j + 1) d)) ≡ shift_out j b xs
  shift-out-step xs j b d h = rw (add-one j) (go xs j (rw (add-one j) at h)) where
    go : (xs : List A) (j : ℕ) → suc j < length xs → shift_out (suc j) b (set xs j (get_or xs (suc j) d)) ≡ shift_out j b xs
    go [] j h = refl
    go (x ∷ []) zero h = absurd (not-suc-le-zero (le_of_suc-le-suc h))
    go (x ∷ y ∷ xs) zero h = refl
    go (x ∷ xs) (suc j) h = ap {B = List A} (λ r. x ∷ r) (go xs j (le_of_suc-le-suc h))

  pub shift-out-end : (xs : List A) (j : ℕ) (b : A) → length xs ≡ j + 1 → shift_out j b xs ≡ set xs j b
  shift-out-end xs j b h = go xs j (rw (add-one j) at h) where
    go : (xs : List A) (j : ℕ) → length xs ≡ suc j → shift_out j b xs ≡ set xs j b
    go [] j h = refl
    go (x ∷ []) zero h = refl
    go (x ∷ y ∷ xs) zero h = absurd (omega arith)
    go (x ∷ xs) (suc j) h = ap {B = List A} (λ r. x ∷ r) (go xs j (omega arith))

  pub length-shift-in : (xs : List A) (j : ℕ) (c : A) → length (shift_in j c xs) ≡ length xs
  length-shift-in [] j c = refl
  length-shift-in (x ∷ xs) zero c = ap suc (length-shift-in xs zero x)
  length-shift-in (x ∷ xs) (suc j) c = ap suc (length-shift-in xs j c)

  pub length-shift-out : (xs : List A) (j : ℕ) (b : A) → length (shift_out j b xs) ≡ length xs
  length-shift-out [] j b = refl
  length-shift-out (x ∷ xs) zero b = length-append xs (b ∷ []) ∙ add-one (length xs)
  length-shift-out (x ∷ xs) (suc j) b = ap suc (length-shift-out xs j b)
