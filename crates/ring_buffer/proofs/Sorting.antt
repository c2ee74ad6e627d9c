-- An exchange keeps every number as often as it was, and three of them put three numbers in order: the second leaves the greatest
-- at the end, and the third orders the two before it.
use Prim.Native.Nat.{ℕ, zero, suc, ◌+◌, ◌≤◌, ◌<◌, min, max}
use native.Mathlib.Nat.{le_of_suc-le-suc, not-suc-le-zero, min-eq_left, min-eq_right, max-eq_left, max-eq_right}
use native.Mathlib.Numerals.{add-one}
use native.Mathlib.Omega.{arith, min_cases}
use mathlib.Core.List.{List, [], ◌∷◌}
use mathlib.Core.Path.{◌≡◌, refl, ap, ◌∙◌}
use lib.ListN.{length, get_or, set}
use Rattle.std.specs.List.{swap}
use Rattle.std.proofs.lemmas.List.{get_or_default}
use Rattle.standard.specs.Median.{times, Ascending, Ordered}
use Rattle.standard.proofs.Median.{times-swap, times-cons}
use Rattle.ring_buffer.specs.Exchange.{exchanged}

-- two that stand in order are left
pub kept : (l : List ℕ) (i : ℕ) → get_or l i 0 ≤ get_or l (i + 1) 0 → l ≡ exchanged i l
kept l i h = go l i (rw (add-one i) at h) where
  go : (l : List ℕ) (i : ℕ) → get_or l i 0 ≤ get_or l (suc i) 0 → l ≡ exchanged i l
  go [] i h = refl
  go (x ∷ []) i h = refl
  go (x ∷ y ∷ r) zero h = rw (min-eq_left h, max-eq_right h)
  go (x ∷ y ∷ r) (suc i) h = ap (λ (t : List ℕ). x ∷ t) (go (y ∷ r) i h)

-- two that do not change places
swapped : (l : List ℕ) (i : ℕ) → i + 1 < length l → get_or l (i + 1) 0 ≤ get_or l i 0
    → set (set l i (get_or l (i + 1) 0)) (i + 1) (get_or l i 0) ≡ exchanged i l
swapped l i f h = rw (add-one i) (go l i (rw (add-one i) at f) (rw (add-one i) at h)) where
  go : (l : List ℕ) (i : ℕ) → suc i < length l → get_or l (suc i) 0 ≤ get_or l i 0
      → set (set l i (get_or l (suc i) 0)) (suc i) (get_or l i 0) ≡ exchanged i l
  go [] i f h = refl
  go (x ∷ []) i f h = absurd (not-suc-le-zero (le_of_suc-le-suc f))
  go (x ∷ y ∷ r) zero f h = rw (min-eq_right h, max-eq_left h)
  go (x ∷ y ∷ r) (suc i) f h = ap (λ (t : List ℕ). x ∷ t) (go (y ∷ r) i (le_of_suc-le-suc f) h)

pub traded : (l : List ℕ) (i : ℕ) → i + 1 < length l → get_or l (i + 1) 0 ≤ get_or l i 0 → swap l i (i + 1) ≡ exchanged i l
traded [] i f h = absurd (not-suc-le-zero f)
traded (d ∷ l) i f h =
    ap (λ (n : ℕ). set (set (d ∷ l) i n) (i + 1) (get_or (d ∷ l) i d)) (get_or_default (d ∷ l) (i + 1) d 0 f)
    ∙ ap (λ (n : ℕ). set (set (d ∷ l) i (get_or (d ∷ l) (i + 1) 0)) (i + 1) n) (get_or_default (d ∷ l) i d 0 (omega (arith, f)))
    ∙ swapped (d ∷ l) i f h

exchange-times : (n i : ℕ) (l : List ℕ) → times n (exchanged i l) ≡ times n l
exchange-times n i [] = refl
exchange-times n i (x ∷ []) = refl
exchange-times n zero (x ∷ y ∷ r) =
    min_cases x y (times n (min x y ∷ max x y ∷ r) ≡ times n (x ∷ y ∷ r))
    (λ h e. rw (e, max-eq_right h))
    (λ h e. rw (e, max-eq_left h) (times-swap n y x r))
exchange-times n (suc i) (x ∷ y ∷ r) = times-cons n x (exchanged i (y ∷ r)) (y ∷ r) (exchange-times n i (y ∷ r))

three-ascending : (l : List ℕ) → length l ≡ 3 → Ascending (exchanged 0 (exchanged 1 (exchanged 0 l)))
three-ascending [] e = absurd (omega arith)
three-ascending (a ∷ []) e = absurd (omega arith)
three-ascending (a ∷ b ∷ []) e = absurd (omega arith)
three-ascending (a ∷ b ∷ c ∷ []) e = omega arith
three-ascending (a ∷ b ∷ c ∷ d ∷ r) e = absurd (omega arith)

pub three-ordered : (l : List ℕ) → length l ≡ 3 → Ordered l (exchanged 0 (exchanged 1 (exchanged 0 l)))
three-ordered l e = record {
  same = λ n.
      exchange-times n 0 (exchanged 1 (exchanged 0 l)) ∙ exchange-times n 1 (exchanged 0 l) ∙ exchange-times n 0 l;
  ascending = three-ascending l e;
}
