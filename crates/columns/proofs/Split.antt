-- Keys that go up, counted as far as place i: the first r are below the one looked for, and those from there up to i are not.
use Rattle.std.specs.Prelude.{Ok, Err}
use Prim.Native.Nat.{ℕ, ◌≤◌, ◌<◌, ◌+◌}
use mathlib.Core.Bool.{Bool, true, false}
use mathlib.Core.List.{List}
use mathlib.Core.Path.{◌≡◌, sym, subst}
use mathlib.Core.Logic.{⊎_elim}
use native.Mathlib.Omega.{arith}
use native.Mathlib.Nat.{eq-or-lt_of_le}
use lib.ListN.{length, get_or, take}
use lib.Dec.{ltb}
use mir.Val.{bool_byte}
use borrow.Author.Tests.{ltb-true, ltb-false}
use Rattle.flat_map.specs.Seek.{place_of}
use Rattle.flat_map.specs.Table.{Rising}
use Rattle.flat_map.proofs.Places.{Below, below_up, found_at, missing_at}

abbrev pub Split : List ℕ → ℕ → ℕ → ℕ → Type 0
Split xs k r i = (r ≤ i) × Below xs k r × ((m : ℕ) → r ≤ m → m < i → k ≤ get_or xs m 0)

pub split_none : (xs : List ℕ) (k : ℕ) → Split xs k 0 0
split_none xs k = (omega arith, (λ n l. absurd (omega arith)), λ m h l. absurd (omega arith))

pub one_more : (xs : List ℕ) (n k r i : ℕ) (b : Bool) → ltb (get_or xs i 0) k ≡ b → Rising xs n → i < n → Split xs k r i → Split xs k (r + bool_byte b) (i + 1)
one_more xs n k r i true e up h s =
    let low = below_up xs n k up i h (ltb-true (get_or xs i 0) k e) in
    (omega (arith, s.0), (λ m l. low m (omega (arith, s.0))), λ m g l. absurd (omega (arith, s.2 r (omega arith) (omega arith), low r (omega arith))))
one_more xs n k r i false e up h s = (
  omega (arith, s.0),
  (λ m l. s.1 m (omega arith)),
  λ m g l. ⊎_elim (λ q. subst (λ (j : ℕ). k ≤ get_or xs j 0) (sym q) (ltb-false (get_or xs i 0) k e)) (λ q. s.2 m (omega arith) q) (eq-or-lt_of_le (omega arith)),
)

-- at the end of the count the place is told by the key that stands there
module _ (xs : List ℕ) (n k r at : ℕ) (long : n ≤ length xs) (e : at ≡ r) (s : Split xs k r n) where
  low : Below xs k at
  low m l = s.1 m (omega (arith, e, l))

  pub found_there : at < n → get_or xs at 0 ≡ k → Ok at ≡ place_of (take n xs) k
  found_there l q = found_at xs n k long at l low q

  pub missing_there : (at < n → get_or xs at 0 ≡ k → ⊥) → Err at ≡ place_of (take n xs) k
  missing_there other =
      missing_at xs n k long at (omega (arith, e, s.0)) low
      (λ l. ⊎_elim (λ q. absurd (other l (sym q))) (λ q. q) (eq-or-lt_of_le (s.2 at (omega (arith, e)) l)))
