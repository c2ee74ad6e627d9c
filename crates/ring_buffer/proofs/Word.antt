-- A ring goes into its word and comes back, and a word below its end goes into a ring and comes back: each field is a digit of the word,
-- and a number is the sum of its digits. Which words hold a well-formed ring is told by a few comparisons of the number.
use Prim.Native.Nat.{ℕ, zero, suc, ◌+◌, ◌*◌, ◌/◌, ◌%◌, ◌<◌, min}
use native.Mathlib.Omega.{arith}
use mathlib.Core.Bool.{Bool, true, false, ◌&&◌, ◌||◌}
use mathlib.Core.List.{List, [], ◌∷◌}
use mathlib.Core.Logic.{◌⊎◌, inl, inr}
use mathlib.Core.Path.{◌≡◌, refl, sym, subst, ◌∙◌}
use lib.Dec.{eqb, ltb}
use lib.ListN.{length, get_or, set}
use Rattle.standard.specs.Tells.{Tells}
use Rattle.standard.proofs.Tells.{yes-so, not_so, denied, tells-one, tells_both, tells-so, tells-eq, tells-lt}
use Rattle.ring_buffer.specs.declared.RingBuffer.{RingBuffer}
use Rattle.ring_buffer.specs.Ring.{fresh, after_push, WellFormed, well_formed}
use Rattle.ring_buffer.specs.Word.{word_end, ring_of, ring_word, InRange}
use Rattle.ring_buffer.proofs.Shapes.{well, ring, by_shape, tells-well-formed}

three : (l : List ℕ) → length l ≡ 3 → ◌≡◌ {A = List ℕ} (get_or l 0 0 ∷ get_or l 1 0 ∷ get_or l 2 0 ∷ []) l
three [] h = absurd (omega arith)
three (a ∷ []) h = absurd (omega arith)
three (a ∷ b ∷ []) h = absurd (omega arith)
three (a ∷ b ∷ c ∷ []) h = refl
three (a ∷ b ∷ c ∷ d ∷ l) h = absurd (omega arith)

-- the digits of a word
module _ (a b c l n : ℕ) (ab : a < 256) (bb : b < 256) (cb : c < 256) (lb : l < 256) (nb : n < 256) where
  abbrev packed : ℕ
  packed = a + b * 256 + c * 65536 + l * 16777216 + n * 4294967296

  record Digits : Type 0 where
    first : packed % 256 ≡ a
    second : (packed / 256) % 256 ≡ b
    third : (packed / 65536) % 256 ≡ c
    held : (packed / 16777216) % 256 ≡ l
    next : (packed / 4294967296) % 256 ≡ n
    small : packed < word_end

  digits : Digits
  digits = record {
    first = omega arith;
    second = omega arith;
    third = omega arith;
    held = omega arith;
    next = omega arith;
    small = omega arith;
  }

module _ (r : RingBuffer) (q : InRange r) where
  in-word : Digits _ _ _ _ _ q.first q.second q.third q.held q.next
  in-word = digits _ _ _ _ _ q.first q.second q.third q.held q.next

  pub ring-back : ring_of (ring_word r) ≡ r
  unfolding ring_of ring_word
  ring-back = λ z. record {
    values = ((λ y. in-word.first y ∷ in-word.second y ∷ in-word.third y ∷ []) ∙ three r.values q.places) z;
    len = in-word.held z;
    next = in-word.next z;
  }

  pub word_small : ring_word r < word_end
  unfolding ring_word
  word_small = in-word.small

-- fields above a ring are not read with it
pub low_read : (v h : ℕ) → v < word_end → ring_of (v + h * word_end) ≡ ring_of v
unfolding ring_of
low_read v h b = λ z. record { values = first z ∷ second z ∷ third z ∷ []; len = held z; next = next z } where
  first : (v + h * word_end) % 256 ≡ v % 256
  first = omega arith

  second : ((v + h * word_end) / 256) % 256 ≡ (v / 256) % 256
  second = omega arith

  third : ((v + h * word_end) / 65536) % 256 ≡ (v / 65536) % 256
  third = omega arith

  held : ((v + h * word_end) / 16777216) % 256 ≡ (v / 16777216) % 256
  held = omega arith

  next : ((v + h * word_end) / 4294967296) % 256 ≡ (v / 4294967296) % 256
  next = omega arith

-- a ring comes back from below other fields
pub ring-below : (r : RingBuffer) → InRange r → (h : ℕ) → ring_of (ring_word r + h * word_end) ≡ r
ring-below r q h = low_read (ring_word r) h (word_small r q) ∙ ring-back r q

-- a word is the sum of its digits: with each digit, what is below the next
module _ (w : ℕ) where
  below-third : w % 256 + ((w / 256) % 256) * 256 ≡ w % 65536
  below-third = omega arith

  below-held : w % 65536 + ((w / 65536) % 256) * 65536 ≡ w % 16777216
  below-held = omega arith

  below_next : w % 16777216 + ((w / 16777216) % 256) * 16777216 ≡ w % 4294967296
  below_next = omega arith

  whole : w % 4294967296 + ((w / 4294967296) % 256) * 4294967296 ≡ w % word_end
  whole = omega arith

-- the ring's own part of a word: its lowest 40 bits
pub ring-part : (w : ℕ) → ring_word (ring_of w) ≡ w % word_end
unfolding ring_of ring_word
ring-part w =
    let third = (λ z. below-third w z + ((w / 65536) % 256) * 65536) ∙ below-held w in
    let held = (λ z. third z + ((w / 16777216) % 256) * 16777216) ∙ below_next w in
    (λ z. held z + ((w / 4294967296) % 256) * 4294967296) ∙ whole w

pub word_back : (w : ℕ) → w < word_end → ring_word (ring_of w) ≡ w
word_back w h = ring-part w ∙ omega arith

pub zero-read : ring_of 0 ≡ fresh
unfolding ring_of
zero-read = refl

pub fresh-word : ring_word fresh ≡ 0
unfolding ring_word
fresh-word = refl

pub read-in-range : (w : ℕ) → InRange (ring_of w)
unfolding ring_of
read-in-range w = record { places = refl; first = omega arith; second = omega arith; third = omega arith; held = omega arith; next = omega arith }

pub fresh-in-range : InRange fresh
fresh-in-range = record { places = refl; first = omega arith; second = omega arith; third = omega arith; held = omega arith; next = omega arith }

-- a push of a byte leaves a ring within the fields
pub push-in-range : (r : RingBuffer) (value : ℕ) → value < 256 → InRange r → InRange (after_push r value)
push-in-range r value b q = go r.values (r.next % 3) q.places q.first q.second q.third where
  go : (l : List ℕ) (i : ℕ) → length l ≡ 3 → get_or l 0 0 < 256 → get_or l 1 0 < 256 → get_or l 2 0 < 256
      → InRange (ring (set l i value) (min (r.len + 1) 3) ((r.next + 1) % 3))
  go [] i h x y w = absurd (omega arith)
  go (a ∷ []) i h x y w = absurd (omega arith)
  go (a ∷ c ∷ []) i h x y w = absurd (omega arith)
  go (a ∷ c ∷ d ∷ []) zero h x y w = record { places = refl; first = b; second = y; third = w; held = omega arith; next = omega arith }
  go (a ∷ c ∷ d ∷ []) (suc zero) h x y w = record { places = refl; first = x; second = b; third = w; held = omega arith; next = omega arith }
  go (a ∷ c ∷ d ∷ []) (suc (suc zero)) h x y w = record { places = refl; first = x; second = y; third = b; held = omega arith; next = omega arith }
  go (a ∷ c ∷ d ∷ []) (suc (suc (suc i))) h x y w = record { places = refl; first = x; second = y; third = w; held = omega arith; next = omega arith }
  go (a ∷ c ∷ d ∷ e ∷ l) i h x y w = absurd (omega arith)

-- equal numbers have equal digits
same_digits : (d m x k : ℕ) → d < 256 → x < 256 → d + m * 256 ≡ x + k * 256 → (d ≡ x) × (m ≡ k)
same_digits d m x k db xb e = (omega arith, omega arith)

-- which words v hold a well-formed ring: 0, or what stands above the first sample has the digits of one, two or three samples held
abbrev Shaped : ℕ → ℕ → Type 0
Shaped v above = (((v ≡ 0) ⊎ (above ≡ 16842752)) ⊎ (above / 256 ≡ 131584)) ⊎ (((above / 65536) % 256 ≡ 3) × (above < 50331648))

module _ (a b c l n : ℕ) (ab : a < 256) (bb : b < 256) (cb : c < 256) (lb : l < 256) (nb : n < 256) where
  abbrev word : ℕ
  word = a + b * 256 + c * 65536 + l * 16777216 + n * 4294967296

  above : word / 256 ≡ b + (c + (l + n * 256) * 256) * 256
  above = omega arith

  shaped-well : Shaped word (word / 256) → WellFormed (ring (a ∷ b ∷ c ∷ []) l n)
  shaped-well (inl (inl (inl e))) =
      let ae : a ≡ 0 = omega arith in
      let be : b ≡ 0 = omega arith in
      let ce : c ≡ 0 = omega arith in
      let le : l ≡ 0 = omega arith in
      let ne : n ≡ 0 = omega arith in
      rw (ae, be, ce, le, ne) (well refl)
  shaped-well (inl (inl (inr e))) =
      let low = same_digits b (c + (l + n * 256) * 256) 0 65792 bb (omega arith) (sym above ∙ e) in
      let mid = same_digits c (l + n * 256) 0 257 cb (omega arith) low.1 in
      let top = same_digits l n 1 1 lb (omega arith) mid.1 in
      rw (low.0, mid.0, top.0, top.1) (well refl)
  shaped-well (inl (inr e)) =
      let low = same_digits c (l + n * 256) 0 514 cb (omega arith) (omega (arith, above)) in
      let top = same_digits l n 2 2 lb (omega arith) low.1 in
      rw (low.0, top.0, top.1) (well refl)
  shaped-well (inr p) =
      let le : l ≡ 3 = omega (arith, above, p.0) in
      let small : n < 3 = omega (arith, above, p.1) in
      rw le (record { places = refl; count = omega arith; filling = λ h. absurd (omega arith); full = λ h. small; blank = refl })

well-shaped : (r : RingBuffer) → WellFormed r → InRange r → Shaped (ring_word r) (ring_word r / 256)
unfolding ring_word
well-shaped =
    by_shape
    (λ r. InRange r → Shaped (ring_word r) (ring_word r / 256))
    (λ q. inl (inl (inl refl)))
    (λ a q. inl (inl (inr (omega (arith, q.first)))))
    (λ a b q. inl (inr (omega (arith, q.first, q.second))))
    (λ a b c q. inr (omega (arith, q.first, q.second, q.third), omega (arith, q.first, q.second, q.third)))
    (λ a b c q. inr (omega (arith, q.first, q.second, q.third), omega (arith, q.first, q.second, q.third)))
    (λ a b c q. inr (omega (arith, q.first, q.second, q.third), omega (arith, q.first, q.second, q.third)))

-- at least one of two questions
tells-either : {P Q : Type 0} {a b : Bool} → Tells P a → Tells Q b → Tells (P ⊎ Q) (a || b)
tells-either {a = true} s t = yes-so (inl (s.fact refl))
tells-either {a = false} {b = true} s t = yes-so (inr (t.fact refl))
tells-either {P} {Q} {a = false} {b = false} s t = not_so neither where
  neither : P ⊎ Q → ⊥
  neither (inl p) = denied s refl p
  neither (inr q) = denied t refl q

module _ (w : ℕ) where
  abbrev rest : ℕ
  rest = (w / 256) % 4294967296

  rest-is : rest ≡ w % word_end / 256
  rest-is = omega arith

  read-well : Shaped (w % word_end) rest → WellFormed (ring_of w)
  unfolding ring_of ring_word
  read-well s =
      shaped-well (w % 256) ((w / 256) % 256) ((w / 65536) % 256) ((w / 16777216) % 256) ((w / 4294967296) % 256)
      (omega arith) (omega arith) (omega arith) (omega arith) (omega arith)
      (subst (λ (v : ℕ). Shaped v (v / 256)) (sym (ring-part w)) (subst (Shaped (w % word_end)) rest-is s))

  read-shaped : WellFormed (ring_of w) → Shaped (w % word_end) rest
  read-shaped f =
      subst (Shaped (w % word_end)) (sym rest-is)
      (subst (λ (v : ℕ). Shaped v (v / 256)) (ring-part w) (well-shaped (ring_of w) f (read-in-range w)))

  -- the comparisons of a word tell whether its ring is well formed
  pub word-told : ((eqb (w % word_end) 0 || eqb rest 16842752) || eqb (rest / 256) 131584) || (eqb ((rest / 65536) % 256) 3 && ltb rest 50331648) ≡ well_formed (ring_of w)
  word-told =
      tells-one
      (tells-so read-well read-shaped
      (tells-either
      (tells-either (tells-either (tells-eq (w % word_end) 0) (tells-eq rest 16842752)) (tells-eq (rest / 256) 131584))
      (tells_both (tells-eq ((rest / 65536) % 256) 3) (tells-lt rest 50331648))))
      (tells-well-formed (ring_of w))
