-- A missing key put in at its place, and a key taken out, leave ascending keys ascending;
-- and the order that a loop tests place by place is the order of the list.
use Prim.Native.Nat.{ℕ, zero, suc, ◌+◌, ◌<◌}
use native.Mathlib.Nat.{le_of_suc-le-suc, not-suc-le-zero, lt_trans}
use native.Mathlib.Numerals.{add-one}
use native.Mathlib.Omega.{arith}
use mathlib.Core.List.{List, [], ◌∷◌}
use lib.ListN.{length, get_or}
use Rattle.standard.specs.Ordered.{Before, Asc}
use Rattle.standard.proofs.Tells.{yes-so, tells_both, tells-lt}
use Rattle.standard.specs.Tells.{Tells}
use Rattle.flat_map.specs.Rows.{remove_at}
use Rattle.flat_map.specs.Table.{Rising, ascends}

pub before-trans : (j k : ℕ) (xs : List ℕ) → j < k → Before k xs → Before j xs
before-trans j k [] h b = tt
before-trans j k (x ∷ xs) h b = lt_trans h b

pub rising-asc : (xs : List ℕ) → Rising xs (length xs) → Asc xs
rising-asc [] r = tt
rising-asc (x ∷ []) r = (tt, tt)
rising-asc (x ∷ y ∷ ys) r = (r 0 (omega arith), rising-asc (y ∷ ys) (λ i l. step i (r (suc i) (omega arith)))) where
  step : (i : ℕ) → get_or (x ∷ y ∷ ys) (suc i) 0 < get_or (x ∷ y ∷ ys) (suc i + 1) 0 → get_or (y ∷ ys) i 0 < get_or (y ∷ ys) (i + 1) 0
  step i h = rw (add-one i) (rw (add-one (suc i)) at h)

pub asc-rising : (xs : List ℕ) → Asc xs → Rising xs (length xs)
asc-rising xs a i l = rw (add-one i) (go xs i a (rw (add-one i) at l)) where
  go : (xs : List ℕ) (i : ℕ) → Asc xs → suc i < length xs → get_or xs i 0 < get_or xs (suc i) 0
  go [] i a l = absurd (not-suc-le-zero l)
  go (x ∷ []) i a l = absurd (not-suc-le-zero (le_of_suc-le-suc l))
  go (x ∷ y ∷ ys) zero a l = a.0
  go (x ∷ y ∷ ys) (suc i) a l = go (y ∷ ys) i a.1 (le_of_suc-le-suc l)

before-remove_at : (k : ℕ) (xs : List ℕ) (i : ℕ) → Before k xs → Asc xs → Before k (remove_at i xs)
before-remove_at k [] i b a = tt
before-remove_at k (x ∷ xs) zero b a = before-trans k x xs b a.0
before-remove_at k (x ∷ xs) (suc i) b a = b

pub asc-remove_at : (xs : List ℕ) (i : ℕ) → Asc xs → Asc (remove_at i xs)
asc-remove_at [] i a = tt
asc-remove_at (x ∷ xs) zero a = a.1
asc-remove_at (x ∷ xs) (suc i) a = (before-remove_at x xs i a.0 a.1, asc-remove_at xs i a.1)

-- the order that is computed is the order
pub asc-told : (xs : List ℕ) → Tells (Asc xs) (ascends xs)
asc-told [] = yes-so tt
asc-told (x ∷ []) = yes-so (tt, tt)
asc-told (x ∷ y ∷ r) = tells_both (tells-lt x y) (asc-told (y ∷ r))
