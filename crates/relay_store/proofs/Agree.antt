-- The computed test of a store tells exactly whether it agrees with a column of lengths:
-- a test of every place below a bound tells its fact at each of them, and nothing is gathered of rows that are zero after their lengths.
use Prim.Native.Nat.{ℕ, zero, suc, ◌+◌, ◌-◌, ◌*◌, ◌<◌, ◌≤◌, min}
use native.Mathlib.Nat.{not-suc-le-zero, eq-or-lt_of_le, le_of_suc-le-suc, mod-eq_of_lt}
use native.Mathlib.Omega.{arith}
use mathlib.Core.Bool.{Bool}
use mathlib.Core.List.{List, ◌++◌}
use mathlib.Core.Logic.{⊎_elim}
use mathlib.Core.Path.{◌≡◌, sym, subst, ◌∙◌}
use lib.Bits.{bit_and, bit_or, and_zero_r, and_le_l, and_le_r, and_mask, or_add_and}
use lib.Dec.{eqb}
use lib.ListN.{length, take, drop, get_or, length-append, length-take, length-drop, get_or-append, get_or-eq_default}
use lib.Seq.{length-take-le, get_or-take, get_or-drop}
use Rattle.std.proofs.lemmas.List.{get_or-append_right}
use Rattle.standard.specs.Tells.{Tells}
use Rattle.standard.proofs.Tells.{yes-so, tells_both, tells-eq, tells-so}
use Rattle.flat_map.specs.Table.{ZeroFrom}
use Rattle.flat_map.proofs.Told.{every-told}
use Rattle.flat_map.proofs.Compare.{below_or_not}
use Rattle.relay_store.specs.Store.{row_at, AgreesBy, agrees_by, all_below, Marked, Masks}

pub below-told : (P : ℕ → Type 0) (test : ℕ → Bool) → ((i : ℕ) → Tells (P i) (test i)) → (n : ℕ) → Tells ((i : ℕ) → i < n → P i) (all_below n test)
below-told P test t zero = yes-so (λ i l. absurd (not-suc-le-zero l))
below-told P test t (suc n) = tells-so all parts (tells_both (t n) (below-told P test t n)) where
  all : P n × ((i : ℕ) → i < n → P i) → (i : ℕ) → i < suc n → P i
  all p i l = ⊎_elim (λ e. subst P (sym e) p.0) (λ h. p.1 i h) (eq-or-lt_of_le (le_of_suc-le-suc l))

  parts : ((i : ℕ) → i < suc n → P i) → P n × ((i : ℕ) → i < n → P i)
  parts q = (q n (omega arith), λ i l. q i (omega arith))

pub agrees-told : (lengths store : List ℕ) → Tells (AgreesBy lengths store) (agrees_by lengths store)
unfolding agrees_by
agrees-told lengths store =
    tells-so (λ p. record { places = p.0; zeros = p.1 }) (λ a. (a.places, a.zeros))
    (tells_both (tells-eq (length store) 2048)
    (below-told (λ i. ZeroFrom (row_at i store) (get_or lengths i 0)) _ (λ i. every-told 0 (eqb 0) (λ x. tells-so sym sym (tells-eq 0 x)) (row_at i store) (get_or lengths i 0)) 64))

-- bits added are zero exactly if both numbers are, and a mask of 16 ones lets a number of 16 bits through
or-zero : (a b : ℕ) → bit_or a b ≡ 0 → (a ≡ 0) × (b ≡ 0)
or-zero a b e = (omega (arith, or_add_and a b, and_le_r a b), omega (arith, or_add_and a b, and_le_l a b))

zero_or : (a b : ℕ) → a ≡ 0 → b ≡ 0 → bit_or a b ≡ 0
zero_or a b p q = omega (arith, or_add_and a b)

all-through : (x : ℕ) → x < 65536 → bit_and x 65535 ≡ x
all-through x h = and_mask x 16 ∙ mod-eq_of_lt h

row-few : (store : List ℕ) → ((k : ℕ) → get_or store k 0 < 65536) → (i j : ℕ) → get_or (row_at i store) j 0 < 65536
row-few store few i j =
    ⊎_elim (λ (h : j < 32). rw (get_or-take 32 (drop (32 * i) store) j 0 h, get_or-drop (32 * i) store j 0) (few (32 * i + j)))
    (λ (h : 32 ≤ j). rw (get_or-eq_default (row_at i store) 0 {n = j} (omega (arith, length-take 32 (drop (32 * i) store)))) (omega arith)) (below_or_not j 32)

-- row k is zero at place j, where that is after its length
abbrev pub ZeroAt : List ℕ → List ℕ → ℕ → ℕ → Type 0
ZeroAt lengths store k j = get_or lengths k 0 ≤ j → get_or (row_at k store) j 0 ≡ 0

-- what is gathered of the first i rows: a place has zero exactly if each of them is zero there after its length
pub record Gathered (lengths store over : List ℕ) (i : ℕ) : Type 0 where
  pub small : i ≤ 64
  pub long : length over ≡ 32
  pub there : (j : ℕ) → j < 32 → get_or over j 0 ≡ 0 → (k : ℕ) → k < i → ZeroAt lengths store k j
  pub back : (j : ℕ) → j < 32 → ((k : ℕ) → k < i → ZeroAt lengths store k j) → get_or over j 0 ≡ 0

module _ (lengths store : List ℕ) where
  pub gathered_none : (over : List ℕ) → length over ≡ 32 → ZeroFrom over 0 → Gathered lengths store over 0
  gathered_none over h z = record { small = omega arith; long = h; there = λ j b e k l. absurd (not-suc-le-zero l); back = λ j b f. z j (omega arith) }

  -- one more row, read through the masks of its length
  module _ (masks : List ℕ) (s : Masks masks) (few : (k : ℕ) → get_or store k 0 < 65536) (i m : ℕ) (q : m ≡ min (get_or lengths i 0) 32) where
    abbrev pub mask : List ℕ
    mask = take 32 (drop (32 - m) masks)

    -- what comes through at a place
    abbrev through : ℕ → ℕ
    through j = bit_and (get_or (row_at i store) j 0) (get_or mask j 0)

    mask_at : (j : ℕ) → j < 32 → get_or mask j 0 ≡ get_or masks (32 - m + j) 0
    mask_at j h = get_or-take 32 (drop (32 - m) masks) j 0 h ∙ get_or-drop (32 - m) masks j 0

    none-at : (j : ℕ) → j < m → through j ≡ 0
    none-at j h = rw (mask_at j (omega arith), s.none (32 - m + j) (omega arith)) (and_zero_r (get_or (row_at i store) j 0))

    all-at : (j : ℕ) → j < 32 → m ≤ j → through j ≡ get_or (row_at i store) j 0
    all-at j h l = rw (mask_at j h, s.all (32 - m + j) (omega arith) (omega arith)) (all-through (get_or (row_at i store) j 0) (row-few store few i j))

    through-there : (j : ℕ) → j < 32 → through j ≡ 0 → ZeroAt lengths store i j
    through-there j h e l = sym (all-at j h (omega arith)) ∙ e

    through-back : (j : ℕ) → j < 32 → ZeroAt lengths store i j → through j ≡ 0
    through-back j h z = ⊎_elim (λ (b : j < m). none-at j b) (λ (b : m ≤ j). all-at j h b ∙ z (omega arith)) (below_or_not j m)

    pub gathered-more : (over new : List ℕ) → i < 64 → Gathered lengths store over i → Marked over (row_at i store) mask new → Gathered lengths store new (i + 1)
    gathered-more over new l g r = record { small = omega arith; long = r.long; there = there; back = back } where
      there : (j : ℕ) → j < 32 → get_or new j 0 ≡ 0 → (k : ℕ) → k < i + 1 → ZeroAt lengths store k j
      there j h e k b =
          let z = or-zero (get_or over j 0) (through j) (sym (r.each j h) ∙ e) in
          ⊎_elim (λ (o : k ≡ i). rw o (through-there j h z.1)) (λ (o : k < i). g.there j h z.0 k o) (eq-or-lt_of_le (omega arith))

      back : (j : ℕ) → j < 32 → ((k : ℕ) → k < i + 1 → ZeroAt lengths store k j) → get_or new j 0 ≡ 0
      back j h f = r.each j h ∙ zero_or (get_or over j 0) (through j) (g.back j h (λ k o. f k (omega arith))) (through-back j h (f i (omega arith)))

  -- all rows are gathered
  pub gathered-told : (over : List ℕ) (i : ℕ) → length store ≡ 2048 → 64 ≤ i → Gathered lengths store over i → {r : Bool} → Tells (ZeroFrom over 0) r → Tells (AgreesBy lengths store) r
  gathered-told over i h m g t = tells-so there back t where
    zero-past : (xs : List ℕ) → length xs ≤ 32 → (j : ℕ) → 32 ≤ j → get_or xs j 0 ≡ 0
    zero-past xs o j b = get_or-eq_default xs 0 {n = j} (omega arith)

    there : ZeroFrom over 0 → AgreesBy lengths store
    there z = record {
      places = h;
      zeros = λ k l j n. ⊎_elim (λ (b : j < 32). g.there j b (z j (omega arith)) k (omega arith) n) (λ (b : 32 ≤ j). zero-past (row_at k store) (omega (arith, length-take 32 (drop (32 * k) store))) j b) (below_or_not j 32);
    }

    back : AgreesBy lengths store → ZeroFrom over 0
    back a j n = ⊎_elim (λ (b : j < 32). g.back j b (λ k l. a.zeros k (omega (arith, g.small)) j)) (λ (b : 32 ≤ j). zero-past over (omega (arith, g.long)) j b) (below_or_not j 32)

-- a row marked as far as place j
pub record Marking (old row mask over : List ℕ) (j : ℕ) : Type 0 where
  pub long : length over ≡ 32
  pub done : (k : ℕ) → k < j → get_or over k 0 ≡ bit_or (get_or old k 0) (bit_and (get_or row k 0) (get_or mask k 0))
  pub left : (k : ℕ) → j ≤ k → get_or over k 0 ≡ get_or old k 0

-- zeros of which the part from place 32 on is filled
pub masks-filled : (zeros ones : List ℕ) → length zeros ≡ 64 → ZeroFrom zeros 0 → length ones ≡ 32 → ((j : ℕ) → j < 32 → get_or ones j 0 ≡ 65535)
    → Masks (take 32 zeros ++ (ones ++ drop (length zeros - 32) (drop 32 zeros)))
masks-filled zeros ones h z l o = record {
  long = length-append (take 32 zeros) (ones ++ rest) ∙ omega (arith, length-append ones rest, before, length-drop (length zeros - 32) (drop 32 zeros), length-drop 32 zeros);
  none = λ j b. get_or-append (take 32 zeros) (ones ++ rest) 0 j (omega (arith, before)) ∙ get_or-take 32 zeros j 0 b ∙ z j (omega arith);
  all = λ j b m. get_or-append_right (take 32 zeros) (ones ++ rest) 32 j 0 before b ∙ get_or-append ones rest 0 (j - 32) (omega arith) ∙ o (j - 32) (omega arith);
} where
  rest : List ℕ
  rest = drop (length zeros - 32) (drop 32 zeros)

  before : length (take 32 zeros) ≡ 32
  before = length-take-le 32 zeros (omega arith)
