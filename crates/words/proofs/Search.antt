-- One turn of each search of the table. Cases of the definitions at the next byte.
-- Assumes nothing.
use Rattle.std.specs.Prelude.{Some, None}
use Prim.Native.Nat.{ℕ, suc, ◌+◌, ◌<◌, ◌≤◌}
use mathlib.Core.Bool.{Bool, true, false}
use mathlib.Core.List.{List, [], ◌∷◌}
use mathlib.Core.Path.{◌≡◌, sym, ap, ◌∙◌}
use lib.Dec.{eqb}
use lib.ListN.{length, drop, get_or, drop_of_length-le}
use lib.Seq.{drop-cons}
use native.Mathlib.Numerals.{add-one}
use native.Mathlib.Omega.{arith}
use borrow.Author.Tests.{eq-eqb, ne_eqb, lt-ltb}
use Rattle.words.specs.Words.{past, tried, counted, seek}

module _ (text : List ℕ) (j : ℕ) where
  pub past-none : (w : List ℕ) → length text ≤ j → past w j (drop j text) ≡ 0
  unfolding past
  past-none [] h = rw (drop_of_length-le text {i = j} h)
  past-none (x ∷ w) h = rw (drop_of_length-le text {i = j} h)

  pub past-other : (w : List ℕ) (i : ℕ) → j < length text → i < length w → (get_or text j 0 ≡ get_or w i 0 → ⊥) → past (drop i w) j (drop j text) ≡ 0
  unfolding past
  past-other w i h k n = rw (drop-cons text j 0, drop-cons w i 0, ne_eqb _ _ n)

  pub past_next :
      (w : List ℕ) (i : ℕ) → j < length text → i < length w → get_or text j 0 ≡ get_or w i 0
      → past (drop i w) j (drop j text) ≡ past (drop (i + 1) w) (j + 1) (drop (j + 1) text)
  unfolding past
  past_next w i h k e = rw (add-one i, add-one j, drop-cons text j 0, drop-cons w i 0, eq-eqb _ _ e, add-one j)

  pub space-here : j < length text → get_or text j 0 ≡ 32 → past [] j (drop j text) ≡ j + 1
  unfolding past
  space-here h e = rw (drop-cons text j 0, eq-eqb _ _ e)

  pub no-space : j < length text → (get_or text j 0 ≡ 32 → ⊥) → past [] j (drop j text) ≡ 0
  unfolding past
  no-space h n = rw (drop-cons text j 0, ne_eqb _ _ n)

module _ (word : List ℕ) (n i : ℕ) (start : Bool) where
  here : {p : ℕ} (t : List ℕ) (b : ℕ) (bs : List ℕ) → t ≡ b ∷ bs → p ≡ tried start word i t → 0 < p → seek word n start i t ≡ Some (n, p)
  unfolding seek
  here t b bs q e k = rw (e, q, lt-ltb 0 (tried start word i (b ∷ bs)) (rw q at (rw e at k)))

  on :
      (t : List ℕ) (b : ℕ) (bs : List ℕ) → t ≡ b ∷ bs → tried start word i t ≡ 0
      → seek word n start i t ≡ seek word (counted n (eqb b 10)) (eqb b 10) (i + 1) bs
  unfolding seek
  on t b bs q e = rw (q, rw q at e)

  pub seek-here : (text : List ℕ) {p : ℕ} → i < length text → p ≡ tried start word i (drop i text) → 0 < p → seek word n start i (drop i text) ≡ Some (n, p)
  seek-here text h e k = here (drop i text) (get_or text i 0) (drop (suc i) text) (drop-cons text i 0 h) e k

  pub seek-on :
      (text : List ℕ) → i < length text → tried start word i (drop i text) ≡ 0
      → seek word n start i (drop i text) ≡ seek word (counted n (eqb (get_or text i 0) 10)) (eqb (get_or text i 0) 10) (i + 1) (drop (i + 1) text)
  seek-on text h e =
      on (drop i text) (get_or text i 0) (drop (i + 1) text) (drop-cons text i 0 h ∙ ap (λ (m : ℕ). get_or text i 0 ∷ drop m text) (sym (add-one i))) e

  pub seek-end : (text : List ℕ) → length text ≤ i → seek word n start i (drop i text) ≡ None
  unfolding seek
  seek-end text h = rw (drop_of_length-le text {i = i} h)

pub counted-most : (n : ℕ) (over : Bool) → counted n over ≤ n + 1
counted-most n true = omega arith
counted-most n false = omega arith
