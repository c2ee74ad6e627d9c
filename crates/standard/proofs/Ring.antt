-- Taking the last three after every push comes to the same as taking them once at the end: what an earlier cut drops, the last
-- cut drops too.
use Prim.Native.Nat.{ℕ, ◌+◌, ◌-◌, ◌≤◌}
use native.Mathlib.Omega.{arith}
use mathlib.Core.List.{List, ◌++◌}
use mathlib.Core.Path.{◌≡◌, sym, ap, ◌∙◌}
use lib.ListN.{length, drop, length-append, length-drop}
use lib.Seq.{drop-append-le, drop-drop}
use Rattle.standard.specs.Ring.{last_three}

-- a list of at most three is kept whole
pub few-kept : (xs : List ℕ) → length xs ≤ 3 → last_three xs ≡ xs
few-kept xs h = ap (λ (k : ℕ). drop k xs) (none_over (length xs) h) where
  none_over : (n : ℕ) → n ≤ 3 → n - 3 ≡ 0
  none_over n h = omega arith

pub cut_again : (xs ys : List ℕ) → last_three (last_three xs ++ ys) ≡ last_three (xs ++ ys)
cut_again xs ys =
    sym (ap last_three (drop-append-le (length xs - 3) xs ys (omega arith)))
    ∙ drop-drop (length (drop (length xs - 3) (xs ++ ys)) - 3) (length xs - 3) (xs ++ ys)
    ∙ ap (λ (k : ℕ). drop k (xs ++ ys)) both-cuts
  where
    both-cuts : length xs - 3 + (length (drop (length xs - 3) (xs ++ ys)) - 3) ≡ length (xs ++ ys) - 3
    both-cuts = simp (length-drop, length-append) (omega arith)
