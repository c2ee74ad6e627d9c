-- `place_of` from what stands at an index, and what stands at an index from `place_of`:
-- all keys before the place are below the one looked for, so each law is an induction that skips them.
use Rattle.std.specs.Prelude.{Result, Ok, Err}
use Prim.Native.Nat.{ℕ, zero, suc, ◌+◌, ◌-◌, ◌<◌, ◌≤◌, zero-le, suc-le-suc}
use native.Mathlib.Nat.{le_of_suc-le-suc, not-suc-le-zero, eq-or-lt_of_le, lt_trans}
use native.Mathlib.Omega.{arith}
use mathlib.Core.Bool.{Bool, true, false, cond}
use mathlib.Core.List.{List, [], ◌∷◌}
use mathlib.Core.Logic.{⊎_elim}
use mathlib.Core.Path.{◌≡◌, refl, sym, ap, ◌∙◌, subst}
use lib.ListN.{length, get_or, take}
use lib.Seq.{get_or-take, length-take-le}
use lib.Dec.{ltb, eqb}
use borrow.Author.Tests.{eq-eqb, ne_eqb, lt-ltb, le-ltb, eqb-true, eqb-false, ltb-true, ltb-false}
use Rattle.flat_map.specs.Seek.{place_of, next}
use Rattle.flat_map.specs.Table.{Rising}

-- the first i keys are below k
abbrev pub Below : List ℕ → ℕ → ℕ → Type 0
Below xs k i = (n : ℕ) → n < i → get_or xs n 0 < k

tail-below : (x : ℕ) (xs : List ℕ) (k i : ℕ) → Below (x ∷ xs) k (suc i) → Below xs k i
tail-below x xs k i b n l = b (suc n) (suc-le-suc l)

-- past a key that is below k
skip : (x : ℕ) (xs : List ℕ) (k : ℕ) → x < k → place_of (x ∷ xs) k ≡ next (place_of xs k)
skip x xs k l = simp (ne_eqb x k (λ e. omega arith), le-ltb k x (omega arith))

pub place_found : (xs : List ℕ) (k i : ℕ) → i < length xs → Below xs k i → get_or xs i 0 ≡ k → place_of xs k ≡ Ok i
place_found [] k i l b e = absurd (not-suc-le-zero l)
place_found (x ∷ xs) k zero l b e = simp (eq-eqb x k e)
place_found (x ∷ xs) k (suc i) l b e =
    skip x xs k (b 0 (suc-le-suc zero-le)) ∙ ap next (place_found xs k i (le_of_suc-le-suc l) (tail-below x xs k i b) e)

place-before : (xs : List ℕ) (k i : ℕ) → i < length xs → Below xs k i → k < get_or xs i 0 → place_of xs k ≡ Err i
place-before [] k i l b e = absurd (not-suc-le-zero l)
place-before (x ∷ xs) k zero l b e = simp (ne_eqb x k (λ q. omega arith), lt-ltb k x e)
place-before (x ∷ xs) k (suc i) l b e =
    skip x xs k (b 0 (suc-le-suc zero-le)) ∙ ap next (place-before xs k i (le_of_suc-le-suc l) (tail-below x xs k i b) e)

place-last : (xs : List ℕ) (k : ℕ) → Below xs k (length xs) → place_of xs k ≡ Err (length xs)
place-last [] k b = refl
place-last (x ∷ xs) k b = skip x xs k (b 0 (suc-le-suc zero-le)) ∙ ap next (place-last xs k (tail-below x xs k (length xs) b))

-- a key that none equals: those before the place are below it, and the one there is above it
pub place-missing : (xs : List ℕ) (k i : ℕ) → i ≤ length xs → Below xs k i → (i < length xs → k < get_or xs i 0) → place_of xs k ≡ Err i
place-missing xs k i l b a =
    ⊎_elim (λ e. place-last xs k (λ n h. b n (omega arith)) ∙ ap Err (sym e)) (λ h. place-before xs k i h b (a h)) (eq-or-lt_of_le l)

-- what a place says of the keys
abbrev pub Placed : List ℕ → ℕ → Result ℕ ℕ → Type 0
Placed xs k (Ok i) = (i < length xs) × (get_or xs i 0 ≡ k) × Below xs k i
Placed xs k (Err i) = (i ≤ length xs) × (i < length xs → k < get_or xs i 0) × Below xs k i

below-cons : (x : ℕ) (xs : List ℕ) (k i : ℕ) → x < k → Below xs k i → Below (x ∷ xs) k (suc i)
below-cons x xs k i h b zero l = h
below-cons x xs k i h b (suc n) l = b n (le_of_suc-le-suc l)

less : (x k : ℕ) → eqb x k ≡ false → ltb k x ≡ false → x < k
less x k e f = ⊎_elim (λ q. absurd (eqb-false x k e q)) (λ l. l) (eq-or-lt_of_le (ltb-false k x f))

placed-cons : (x : ℕ) (xs : List ℕ) (k : ℕ) (a : Bool) → eqb x k ≡ a → (b : Bool) → ltb k x ≡ b → (p : Result ℕ ℕ) → Placed xs k p
    → Placed (x ∷ xs) k (cond a (Ok 0) (cond b (Err 0) (next p)))
placed-cons x xs k true e b f p h = (suc-le-suc zero-le, eqb-true x k e, λ n l. absurd (not-suc-le-zero l))
placed-cons x xs k false e true f p h = (zero-le, (λ _. ltb-true k x f), λ n l. absurd (not-suc-le-zero l))
placed-cons x xs k false e false f (Ok i) h = (suc-le-suc h.0, h.1, below-cons x xs k i (less x k e f) h.2)
placed-cons x xs k false e false f (Err i) h =
    (suc-le-suc h.0, (λ l. h.1 (le_of_suc-le-suc l)), below-cons x xs k i (less x k e f) h.2)

pub placed : (xs : List ℕ) (k : ℕ) → Placed xs k (place_of xs k)
placed [] k = (zero-le, (λ l. absurd (not-suc-le-zero l)), λ n l. absurd (not-suc-le-zero l))
placed (x ∷ xs) k = placed-cons x xs k (eqb x k) refl (ltb k x) refl (place_of xs k) (placed xs k)

-- of a look-up's answer
pub placed_at : (xs : List ℕ) (k : ℕ) (p : Result ℕ ℕ) → p ≡ place_of xs k → Placed xs k p
placed_at xs k p e = subst (Placed xs k) (sym e) (placed xs k)

-- the same of the first n keys of an array
module _ (xs : List ℕ) (n k : ℕ) (fits : n ≤ length xs) where
  long : length (take n xs) ≡ n
  long = length-take-le n xs fits

  below-taken : (i : ℕ) → i ≤ n → Below xs k i → Below (take n xs) k i
  below-taken i l b m h = rw (get_or-take n xs m 0 (omega arith)) (b m h)

  pub found_at : (i : ℕ) → i < n → Below xs k i → get_or xs i 0 ≡ k → Ok i ≡ place_of (take n xs) k
  found_at i l b e = sym (place_found (take n xs) k i (rw long l) (below-taken i (omega arith) b) (get_or-take n xs i 0 l ∙ e))

  pub missing_at : (i : ℕ) → i ≤ n → Below xs k i → (i < n → k < get_or xs i 0) → Err i ≡ place_of (take n xs) k
  missing_at i l b a = sym (place-missing (take n xs) k i (rw long l) (below-taken i l b)
      (λ h. rw (get_or-take n xs i 0 (omega (arith, long))) (a (omega (arith, long)))))

-- keys that go up strictly: an earlier one is below a later one
up_by : (xs : List ℕ) (n p d : ℕ) → Rising xs n → p + suc d < n → get_or xs p 0 < get_or xs (p + suc d) 0
up_by xs n p zero r h = r p h
up_by xs n p (suc d) r h = lt_trans (up_by xs n p d r (omega arith)) (rw (one_more p d) at (r (p + suc d) (omega arith))) where
  one_more : (p d : ℕ) → p + suc d + 1 ≡ p + suc (suc d)
  one_more p d = omega arith

rising-all : (xs : List ℕ) (n : ℕ) → Rising xs n → (p q : ℕ) → p < q → q < n → get_or xs p 0 < get_or xs q 0
rising-all xs n r p q h l = rw (by p q h) at (up_by xs n p (q - suc p) r (omega arith)) where
  by : (p q : ℕ) → p < q → p + suc (q - suc p) ≡ q
  by p q h = omega arith

-- what one comparison says of all keys on one side
module _ (xs : List ℕ) (n k : ℕ) (r : Rising xs n) (m : ℕ) (h : m < n) where
  pub below_at : get_or xs m 0 ≡ k → Below xs k m
  below_at e p l = rw e at (rising-all xs n r p m l h)

  pub below_up : get_or xs m 0 < k → Below xs k (m + 1)
  below_up e p l = ⊎_elim (λ q. rw q e) (λ q. lt_trans (rising-all xs n r p m q h) e) (eq-or-lt_of_le (omega arith))

  pub above_from : k < get_or xs m 0 → (p : ℕ) → m ≤ p → p < n → k < get_or xs p 0
  above_from e p l q =
      ⊎_elim (λ w. subst (λ (j : ℕ). k < get_or xs j 0) w e) (λ w. lt_trans e (rising-all xs n r m p w q)) (eq-or-lt_of_le l)
