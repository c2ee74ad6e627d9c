-- The first place of a number: a walk over the places keeps the first that it has met, and at its end this is the first of all.
-- There is one such place, and in terms of the test for equality it is where the test first says yes.
use Prim.Native.Nat.{ℕ, ◌+◌, ◌<◌, ◌≤◌, min}
use native.Mathlib.Nat.{eq-or-lt_of_le, min-eq_left, min-eq_right}
use native.Mathlib.Omega.{arith}
use mathlib.Core.Bool.{Bool, true, false, cond}
use mathlib.Core.List.{List}
use mathlib.Core.Logic.{◌⊎◌, inl, inr, ⊎_elim}
use mathlib.Core.Path.{◌≡◌, refl, ap, sym, ◌∙◌}
use borrow.Author.Tests.{eq-eqb, ne_eqb, eqb-true, eqb-false}
use lib.Dec.{eqb}
use lib.ListN.{get_or}
use Rattle.flat_map.proofs.Compare.{Tri, lt, eq, gt, tri, below_or_not}
use Rattle.columns.specs.Columns.{FirstAt}

-- r is the first among the places before i where x stands, and n where it stands in none of them
pub record Sought (xs : List ℕ) (n x i r : ℕ) : Type 0 where
  pub within : r ≤ n
  pub before : (j : ℕ) → j < i → j < r → get_or xs j 0 ≡ x → ⊥
  pub there : r < n → get_or xs r 0 ≡ x

module _ (xs : List ℕ) (n x : ℕ) where
  pub sought-none : Sought xs n x 0 n
  sought-none = record { within = omega arith; before = λ j h. absurd (omega arith); there = λ h. absurd (omega arith) }

  pub sought-more : (i r : ℕ) → i < n → Sought xs n x i r → Sought xs n x (i + 1) (min (cond (eqb (get_or xs i 0) x) i n) r)
  sought-more i r l s = go (eqb (get_or xs i 0) x) refl (below_or_not i r) where
    go : (b : Bool) → eqb (get_or xs i 0) x ≡ b → (i < r) ⊎ (r ≤ i) → Sought xs n x (i + 1) (min (cond b i n) r)
    go true e (inl h) =
        let q : i ≤ r = omega (arith, h) in
        rw (min-eq_left q)
        (record { within = omega (arith, l); before = λ j g k. s.before j k (omega (arith, h, k)); there = λ _. eqb-true (get_or xs i 0) x e })
    go true e (inr h) =
        rw (min-eq_right h)
        (record { within = s.within; before = λ j g k. s.before j (omega (arith, h, k)) k; there = s.there })
    go false e _ =
        rw (min-eq_right s.within)
        (record {
          within = s.within;
          before = λ j g k q.
              ⊎_elim (λ (w : j ≡ i). eqb-false (get_or xs i 0) x e (ap (λ (m : ℕ). get_or xs m 0) (sym w) ∙ q))
              (λ (w : j < i). s.before j w k q) (eq-or-lt_of_le (omega (arith, g)));
          there = s.there;
        })

  pub sought-done : (i r : ℕ) → n ≤ i → Sought xs n x i r → FirstAt xs n x r
  sought-done i r l s = record { within = s.within; before = λ j h. s.before j (omega (arith, l, h, s.within)) h; there = s.there }

  -- there is one first place
  pub first_one : (r s : ℕ) → FirstAt xs n x r → FirstAt xs n x s → r ≡ s
  first_one r s f g = go (tri r s) where
    go : Tri r s → r ≡ s
    go (lt h) = absurd (g.before r h (f.there (omega (arith, h, g.within))))
    go (eq h) = h
    go (gt h) = absurd (f.before s h (g.there (omega (arith, h, f.within))))

  -- what the test for equality says of the places: no before the first, yes there, and no of every place where there is none
  module _ (r : ℕ) (f : FirstAt xs n x r) where
    pub first-before : (j : ℕ) → j < r → eqb (get_or xs j 0) x ≡ false
    first-before j h = ne_eqb (get_or xs j 0) x (f.before j h)

    pub first-there : r < n → eqb (get_or xs r 0) x ≡ true
    first-there h = eq-eqb (get_or xs r 0) x (f.there h)

    pub first-nowhere : n ≤ r → (j : ℕ) → j < n → eqb (get_or xs j 0) x ≡ false
    first-nowhere h j l = first-before j (omega (arith, h, l))
