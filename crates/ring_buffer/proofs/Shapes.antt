-- The computed test tells whether a ring is well formed, part by part, and a well-formed ring has one of six shapes: none, one or
-- two samples from the first place on, or three with any place next. What holds of the six holds of every well-formed ring.
use Prim.Native.Nat.{ℕ, zero, suc, ◌<◌}
use native.Mathlib.Omega.{arith}
use mathlib.Core.Bool.{true}
use mathlib.Core.List.{List, [], ◌∷◌}
use mathlib.Core.Path.{◌≡◌, refl, ap₂}
use lib.ListN.{length, replicate}
use Rattle.standard.specs.Tells.{Tells}
use Rattle.standard.proofs.Tells.{tells-le, tells-lt, tells-eq, tells-true, tells_both, tells-where, tells-so}
use Rattle.ring_buffer.specs.declared.RingBuffer.{RingBuffer}
use Rattle.ring_buffer.specs.Ring.{all_zero, WellFormed, well_formed}

pub tells-well-formed : (r : RingBuffer) → Tells (WellFormed r) (well_formed r)
tells-well-formed r =
    tells-so
    (λ p. record { places = p.0.0.0.0; count = p.0.0.0.1; filling = p.0.0.1; full = p.0.1; blank = p.1 })
    (λ w. ((((w.places, w.count), w.filling), w.full), w.blank))
    (tells_both
    (tells_both
    (tells_both (tells_both (tells-eq _ 3) (tells-le _ 3)) (tells-where (tells-lt _ 3) (tells-eq _ _)))
    (tells-where (tells-eq _ 3) (tells-lt _ 3)))
    (tells-true _))

-- a ring is well formed where the test computes to yes
pub well : {r : RingBuffer} → well_formed r ≡ true → WellFormed r
well {r} e = (tells-well-formed r).fact e

abbrev pub ring : List ℕ → ℕ → ℕ → RingBuffer
ring values len next = record { values = values; len = len; next = next }

all-zero : (l : List ℕ) → all_zero l ≡ true → l ≡ replicate (length l) 0
all-zero [] e = refl
all-zero (x ∷ xs) e =
    let both : (x ≡ 0) × (all_zero xs ≡ true) = (tells_both (tells-eq x 0) (tells-true (all_zero xs))).fact e in
    ap₂ ◌∷◌ both.0 (all-zero xs both.1)

module _
    (P : RingBuffer → Type 0)
    (none : P (ring (0 ∷ 0 ∷ 0 ∷ []) 0 0))
    (one : (a : ℕ) → P (ring (a ∷ 0 ∷ 0 ∷ []) 1 1))
    (two : (a b : ℕ) → P (ring (a ∷ b ∷ 0 ∷ []) 2 2))
    (first_next : (a b c : ℕ) → P (ring (a ∷ b ∷ c ∷ []) 3 0))
    (second-next : (a b c : ℕ) → P (ring (a ∷ b ∷ c ∷ []) 3 1))
    (third-next : (a b c : ℕ) → P (ring (a ∷ b ∷ c ∷ []) 3 2))
  where
    full : (a b c next : ℕ) → next < 3 → P (ring (a ∷ b ∷ c ∷ []) 3 next)
    full a b c zero h = first_next a b c
    full a b c (suc zero) h = second-next a b c
    full a b c (suc (suc zero)) h = third-next a b c
    full a b c (suc (suc (suc next))) h = absurd (omega arith)

    by_count : (a b c len next : ℕ) → WellFormed (ring (a ∷ b ∷ c ∷ []) len next) → P (ring (a ∷ b ∷ c ∷ []) len next)
    by_count a b c zero next w = rw (w.filling (omega arith), all-zero (a ∷ b ∷ c ∷ []) w.blank) none
    by_count a b c (suc zero) next w = rw (w.filling (omega arith), all-zero (b ∷ c ∷ []) w.blank) (one a)
    by_count a b c (suc (suc zero)) next w = rw (w.filling (omega arith), all-zero (c ∷ []) w.blank) (two a b)
    by_count a b c (suc (suc (suc zero))) next w = full a b c next (w.full refl)
    by_count a b c (suc (suc (suc (suc len)))) next w = absurd (omega (arith, w.count))

    by-places : (values : List ℕ) (len next : ℕ) → WellFormed (ring values len next) → P (ring values len next)
    by-places (a ∷ b ∷ c ∷ []) len next w = by_count a b c len next w
    by-places [] len next w = absurd (omega (arith, w.places))
    by-places (a ∷ []) len next w = absurd (omega (arith, w.places))
    by-places (a ∷ b ∷ []) len next w = absurd (omega (arith, w.places))
    by-places (a ∷ b ∷ c ∷ d ∷ l) len next w = absurd (omega (arith, w.places))

    pub by_shape : (r : RingBuffer) → WellFormed r → P r
    by_shape r w = by-places r.values r.len r.next w
