-- A list that is read place by place: what is read, and what is left to read, is the whole.
-- Assumes nothing.
use Prim.Native.Nat.{ℕ, zero, suc, ◌+◌, ◌-◌, ◌<◌, ◌≤◌}
use mathlib.Core.List.{List, [], ◌∷◌, ◌++◌, append-nil}
use mathlib.Core.Path.{◌≡◌, refl, sym, ap, ◌∙◌}
use native.Mathlib.Nat.{sub-zero}
use native.Mathlib.Numerals.{add-one}
use native.Mathlib.Omega.{arith}
use lib.ListN.{length, take, set}
use lib.Seq.{take-suc-set, append_snoc, take_all}
use Rattle.numbers.specs.Read.{listed}

module _ {A : Type 0} (f : ℕ → A) (n : ℕ) (xs : List A) (i : ℕ) where
  -- what is read at place i goes to place i
  pub read_next : i < n → i < length xs → take (i + 1) (set xs i (f i)) ++ listed f (i + 1) (n - (i + 1)) ≡ take i xs ++ listed f i (n - i)
  unfolding listed
  read_next h k =
      let e : n - i ≡ suc (n - (i + 1)) = omega arith in
      ap (λ (m : ℕ). take m (set xs i (f i)) ++ listed f (i + 1) (n - (i + 1))) (add-one i)
      ∙ ap (λ (l : List A). l ++ listed f (i + 1) (n - (i + 1))) (take-suc-set xs i (f i) k)
      ∙ append_snoc (take i xs) (f i) (listed f (i + 1) (n - (i + 1)))
      ∙ ap (λ (m : ℕ). take i xs ++ listed f i m) (sym e)

  -- nothing is left to read
  pub read_done : length xs ≡ n → n ≤ i → take i xs ++ listed f i (n - i) ≡ xs
  unfolding listed
  read_done e h =
      let z : n - i ≡ 0 = omega arith in
      ap (λ (m : ℕ). take i xs ++ listed f i m) z
      ∙ append-nil (take i xs)
      ∙ take_all i xs (omega arith)

-- at the start all is left to read
pub read_all : {A : Type 0} (f : ℕ → A) (n : ℕ) (xs : List A) → take 0 xs ++ listed f 0 (n - 0) ≡ listed f 0 n
read_all f n xs = ap (listed f 0) (sub-zero n)

-- one place more is read after the others, and as many are read as asked
module _ {A : Type 0} (f : ℕ → A) where
  pub listed_more : (i n : ℕ) → listed f i (suc n) ≡ listed f i n ++ (f (i + n) ∷ [])
  unfolding listed
  listed_more i zero = ap (λ (k : ℕ). f k ∷ []) (omega arith)
  listed_more i (suc n) = ap (λ (l : List A). f i ∷ l) (listed_more (i + 1) n ∙ ap (λ (k : ℕ). listed f (i + 1) n ++ (f k ∷ [])) (omega arith))

  pub listed-length : (i n : ℕ) → length (listed f i n) ≡ n
  unfolding listed
  listed-length i zero = refl
  listed-length i (suc n) = ap suc (listed-length (i + 1) n)
