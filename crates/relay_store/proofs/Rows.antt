-- The store is its 64 rows laid one after the other: rows and store give one another back, and a row replaced in the store
-- is that element of the list of rows replaced. So every step on rows is proved on the list of rows.
use Prim.Native.Nat.{ℕ, zero, suc, ◌+◌, ◌-◌, ◌*◌, ◌<◌}
use native.Mathlib.Nat.{le_of_suc-le-suc, not-suc-le-zero}
use native.Mathlib.Omega.{arith}
use mathlib.Core.List.{List, [], ◌∷◌, ◌++◌, append_assoc}
use mathlib.Core.Path.{◌≡◌, refl, sym, ap, ◌∙◌}
use lib.ListN.{length, take, drop, get_or, set, length-append, length-drop, take-append-drop}
use lib.Seq.{take_at, drop_at, take-add, drop-drop, length-take-le, get_or-set_other, get_or-take, get_or-drop, ext_get_or}
use Rattle.flat_map.specs.Shift.{shift_in}
use Rattle.flat_map.specs.Table.{Each}
use Rattle.flat_map.proofs.Rows.{cons}
use Rattle.columns.specs.Columns.{places}
use Rattle.columns.proofs.Places.{places-length, place_at}
use Rattle.relay_store.specs.Store.{row_at, with_row, rows_in, flat}

-- a row has 32 numbers
abbrev pub Wide : List ℕ → Type 0
Wide row = length row ≡ 32

pub count-rows : (n : ℕ) (s : List ℕ) → length (rows_in n s) ≡ n
unfolding rows_in
count-rows zero s = refl
count-rows (suc n) s = ap suc (count-rows n (drop 32 s))

pub first-row : (n : ℕ) (s : List ℕ) → length s ≡ 32 * suc n → length (take 32 s) ≡ 32
first-row n s h = length-take-le 32 s (omega arith)

pub other-rows : (n : ℕ) (s : List ℕ) → length s ≡ 32 * suc n → length (drop 32 s) ≡ 32 * n
other-rows n s h = omega (arith, length-drop 32 s)

nothing : (s : List ℕ) → length s ≡ 0 → [] ≡ s
nothing [] h = refl
nothing (x ∷ s) h = absurd (omega arith)

pub flat_rows : (n : ℕ) (s : List ℕ) → length s ≡ 32 * n → flat (rows_in n s) ≡ s
unfolding rows_in flat
flat_rows zero s h = nothing s h
flat_rows (suc n) s h = ap (λ (r : List ℕ). take 32 s ++ r) (flat_rows n (drop 32 s) (other-rows n s h)) ∙ take-append-drop 32 s

pub rows-flat : (rows : List (List ℕ)) (n : ℕ) → Each Wide rows → length rows ≡ n → rows_in n (flat rows) ≡ rows
unfolding rows_in flat
rows-flat [] zero w h = refl
rows-flat [] (suc n) w h = absurd (omega arith)
rows-flat (r ∷ rows) zero w h = absurd (omega arith)
rows-flat (r ∷ rows) (suc n) w h =
    (λ z. take_at r (flat rows) 32 w.0 z ∷ rows_in n (drop_at r (flat rows) 32 w.0 z))
    ∙ cons r (rows-flat rows n w.1 (omega arith))

pub row_is : (n i : ℕ) (s d : List ℕ) → i < n → get_or (rows_in n s) i d ≡ row_at i s
unfolding rows_in
row_is zero i s d h = absurd (not-suc-le-zero h)
row_is (suc n) zero s d h = refl
row_is (suc n) (suc i) s d h =
    row_is n i (drop 32 s) d (le_of_suc-le-suc h)
    ∙ ap (take 32) (drop-drop (32 * i) 32 s)
    ∙ ap (λ (k : ℕ). take 32 (drop k s)) (next i) where
      next : (i : ℕ) → 32 + 32 * i ≡ 32 * suc i
      next i = omega arith

pub wide_row : (n i : ℕ) (s : List ℕ) → length s ≡ 32 * n → i < n → length (row_at i s) ≡ 32
wide_row n i s h l = length-take-le 32 (drop (32 * i) s) (omega (arith, length-drop (32 * i) s))

pub wide_rows : (n : ℕ) (s : List ℕ) → length s ≡ 32 * n → Each Wide (rows_in n s)
unfolding rows_in
wide_rows zero s h = tt
wide_rows (suc n) s h = (first-row n s h, wide_rows n (drop 32 s) (other-rows n s h))

-- a row replaced past the first leaves the first
with-row-past : (i : ℕ) (row s : List ℕ) → with_row (suc i) row s ≡ take 32 s ++ with_row i row (drop 32 s)
with-row-past i row s =
    (λ z. take (turn i z) s ++ (row ++ drop (far i z) s))
    ∙ (λ z. take-add 32 (32 * i) s z ++ (row ++ sym (drop-drop (32 * i + 32) 32 s) z))
    ∙ append_assoc (take 32 s) (take (32 * i) (drop 32 s)) (row ++ drop (32 * i + 32) (drop 32 s)) where
      turn : (i : ℕ) → 32 * suc i ≡ 32 + 32 * i
      turn i = omega arith

      far : (i : ℕ) → 32 * suc i + 32 ≡ 32 + (32 * i + 32)
      far i = omega arith

module _ (row : List ℕ) (w : length row ≡ 32) where
  pub rows-with-row : (n i : ℕ) (s : List ℕ) → i < n → length s ≡ 32 * n → rows_in n (with_row i row s) ≡ set (rows_in n s) i row
  unfolding rows_in
  rows-with-row zero i s h l = absurd (not-suc-le-zero h)
  rows-with-row (suc n) zero s h l = λ z. take_at row (drop 32 s) 32 w z ∷ rows_in n (drop_at row (drop 32 s) 32 w z)
  rows-with-row (suc n) (suc i) s h l =
      ap (rows_in (suc n)) (with-row-past i row s)
      ∙ (λ z. take_at (take 32 s) (with_row i row (drop 32 s)) 32 (first-row n s l) z ∷ rows_in n (drop_at (take 32 s) (with_row i row (drop 32 s)) 32 (first-row n s l) z))
      ∙ cons (take 32 s) (rows-with-row n i (drop 32 s) (le_of_suc-le-suc h) (other-rows n s l))

  pub length-with-row : (n i : ℕ) (s : List ℕ) → i < n → length s ≡ 32 * n → length (with_row i row s) ≡ length s
  length-with-row n i s h l =
      length-append (take (32 * i) s) (row ++ drop (32 * i + 32) s)
      ∙ omega (arith, w, length-append row (drop (32 * i + 32) s), length-take-le (32 * i) s (omega arith), length-drop (32 * i + 32) s)

  -- the frame: every other row is as it was
  pub row_kept : (n i j : ℕ) (s : List ℕ) → i < n → j < n → length s ≡ 32 * n → (j ≡ i → ⊥) → row_at j (with_row i row s) ≡ row_at j s
  row_kept n i j s h g l d =
      sym (row_is n j (with_row i row s) [] g)
      ∙ ap (λ (rows : List (List ℕ)). get_or rows j []) (rows-with-row n i s h l)
      ∙ get_or-set_other (rows_in n s) i j row [] d
      ∙ row_is n j s [] g

-- a part of 32 numbers lent from a place on; from 32 times the row on it is that row, and what lies after it begins with the next
span : (k : ℕ) → k + 32 - k ≡ 32
span k = omega arith

pub part_of : (k : ℕ) (s : List ℕ) → take (k + 32 - k) (drop k s) ≡ take 32 (drop k s)
part_of k s = ap (λ (n : ℕ). take n (drop k s)) (span k)

pub part-row : (i : ℕ) (s : List ℕ) → take (32 * i + 32 - 32 * i) (drop (32 * i) s) ≡ row_at i s
part-row i s = part_of (32 * i) s

pub part-put : (i : ℕ) (row s : List ℕ) → take (32 * i) s ++ (row ++ drop (32 * i + 32 - 32 * i) (drop (32 * i) s)) ≡ with_row i row s
part-put i row s =
    (λ z. take (32 * i) s ++ (row ++ drop (span (32 * i) z) (drop (32 * i) s)))
    ∙ (λ z. take (32 * i) s ++ (row ++ drop-drop 32 (32 * i) s z))

pub length-flat : (rows : List (List ℕ)) → Each Wide rows → length (flat rows) ≡ 32 * length rows
unfolding flat
length-flat [] w = refl
length-flat (r ∷ rows) w = length-append r (flat rows) ∙ omega (arith, w.0, length-flat rows w.1)

-- a shift of rows leaves them as wide as they were
pub wide-shift-in : (rows : List (List ℕ)) (i : ℕ) (r : List ℕ) → Wide r → Each Wide rows → Each Wide (shift_in i r rows)
wide-shift-in [] i r h w = tt
wide-shift-in (x ∷ rows) zero r h w = (h, wide-shift-in rows zero x w.0 w.1)
wide-shift-in (x ∷ rows) (suc i) r h w = (w.0, wide-shift-in rows i r h w.1)

-- what was shifted in is written over
pub set-shift-in : (rows : List (List ℕ)) (i : ℕ) (a b : List ℕ) → set (shift_in i a rows) i b ≡ shift_in i b rows
set-shift-in [] i a b = refl
set-shift-in (x ∷ rows) zero a b = refl
set-shift-in (x ∷ rows) (suc i) a b = cons x (set-shift-in rows i a b)

-- the rows by their places
pub rows-places : (n : ℕ) (s : List ℕ) → rows_in n s ≡ places n (λ r. row_at r s)
rows-places n s =
    ext_get_or [] (rows_in n s) (places n (λ r. row_at r s)) (count-rows n s ∙ sym (places-length n (λ r. row_at r s)))
    (λ r h. let l : r < n = omega (arith, count-rows n s) in row_is n r s [] l ∙ sym (place_at n (λ j. row_at j s) r [] l))

-- two rows of the same numbers
pub row_same : (s t : List ℕ) (q r : ℕ) → length (row_at q s) ≡ 32 → length (row_at r t) ≡ 32 → ((k : ℕ) → k < 32 → get_or s (32 * q + k) 0 ≡ get_or t (32 * r + k) 0) → row_at q s ≡ row_at r t
row_same s t q r v w e = ext_get_or 0 (row_at q s) (row_at r t) (v ∙ sym w) (λ k h. number s q k (omega arith) ∙ e k (omega arith) ∙ sym (number t r k (omega arith))) where
  number : (s : List ℕ) (q k : ℕ) → k < 32 → get_or (row_at q s) k 0 ≡ get_or s (32 * q + k) 0
  number s q k h = get_or-take 32 (drop (32 * q) s) k 0 h ∙ get_or-drop (32 * q) s k 0
