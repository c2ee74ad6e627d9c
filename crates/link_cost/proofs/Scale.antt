-- What holds of every radio's scale: a cost is never 0 and never above 7, and better quality is never dearer, since the band found
-- for the better quality is the same one or a later one, and costs fall along the bands.
use Prim.Native.Nat.{ℕ, zero, suc, ◌≤◌, ◌<◌}
use native.Mathlib.Nat.{le_refl, le_trans, lt_of_lt_of_le}
use native.Mathlib.Omega.{arith}
use mathlib.Core.Bool.{Bool, true, false}
use mathlib.Core.List.{List, [], ◌∷◌}
use mathlib.Core.Path.{◌≡◌, refl, ◌∙◌}
use borrow.Author.Tests.{leb-true, leb-false, le-leb, lt-leb}
use lib.Dec.{leb}
use Rattle.standard.specs.LinkCost.{Band, cost_in, FallsFrom, Reaches, Scale}

-- a quality in the first band costs what that band says, and one above it what the rest says
here : (b : Band) (bs : List Band) (q : ℕ) → q ≤ b.bound → cost_in (b ∷ bs) q ≡ b.cost
here b bs q h = rw (le-leb q b.bound h)

past : (b : Band) (bs : List Band) (q : ℕ) → b.bound < q → cost_in (b ∷ bs) q ≡ cost_in bs q
past b bs q h = rw (lt-leb q b.bound h)

-- the quality is in the band at a place: above each bound before it, and not above its own
abbrev pub InBand : List Band → ℕ → ℕ → Type 0
InBand [] i q = ⊥
InBand (b ∷ bs) zero q = q ≤ b.bound
InBand (b ∷ bs) (suc i) q = (b.bound < q) × InBand bs i q

-- the cost of the band at a place
abbrev pub cost_at : List Band → ℕ → ℕ
cost_at [] i = 0
cost_at (b ∷ bs) zero = b.cost
cost_at (b ∷ bs) (suc i) = cost_at bs i

pub cost-in-band : (s : List Band) (i q : ℕ) → InBand s i q → cost_in s q ≡ cost_at s i
cost-in-band [] i q h = absurd h
cost-in-band (b ∷ bs) zero q h = here b bs q h
cost-in-band (b ∷ bs) (suc i) q h = past b bs q h.0 ∙ cost-in-band bs i q h.1

-- a quality is in the first band or above it
module _ {P : Type 0} (b : Band) (q : ℕ) (first : q ≤ b.bound → P) (later : b.bound < q → P) where
  either-at : (t : Bool) → leb q b.bound ≡ t → P
  either-at true e = first (leb-true q b.bound e)
  either-at false e = later (leb-false q b.bound e)

  either : P
  either = either-at (leb q b.bound) refl

at_most : (s : List Band) (limit q : ℕ) → FallsFrom limit s → cost_in s q ≤ limit
at_most [] limit q f = omega arith
at_most (b ∷ bs) limit q f =
    either b q
    (λ h. rw (here b bs q h) f.1)
    (λ h. rw (past b bs q h) (le_trans (at_most bs b.cost q f.2) f.1))

at_least : (s : List Band) (limit top q : ℕ) → FallsFrom limit s → Reaches top s → q ≤ top → 1 ≤ cost_in s q
at_least [] limit top q f r l = absurd r
at_least (b ∷ []) limit top q f r l = rw (here b [] q (le_trans l r)) f.0
at_least (b ∷ c ∷ bs) limit top q f r l =
    either b q
    (λ h. rw (here b (c ∷ bs) q h) f.0)
    (λ h. rw (past b (c ∷ bs) q h) (at_least (c ∷ bs) b.cost top q f.2 r l))

falling : (s : List Band) (limit p q : ℕ) → FallsFrom limit s → p ≤ q → cost_in s q ≤ cost_in s p
falling [] limit p q f l = le_refl 0
falling (b ∷ bs) limit p q f l =
    either b p
    (λ h. rw (here b bs p h) (at_most (b ∷ bs) b.cost q (f.0, le_refl b.cost, f.2)))
    (λ h. rw (past b bs p h, past b bs q (lt_of_lt_of_le h l)) (falling bs b.cost p q f.2 l))

module _ (s : List Band) (scale : Scale s) where
  pub never-0 : (q : ℕ) → q ≤ 255 → 1 ≤ cost_in s q
  never-0 q l = at_least s 7 255 q scale.falling scale.whole l

  pub never-above-7 : (q : ℕ) → cost_in s q ≤ 7
  never-above-7 q = at_most s 7 q scale.falling

  pub never-dearer : (p q : ℕ) → p ≤ q → cost_in s q ≤ cost_in s p
  never-dearer p q l = falling s 7 p q scale.falling l
