-- A line of lines in a row is one of the first lines or one of those after them, and that of an element in its place.
-- Assumes nothing.
use Prim.Native.Nat.{ℕ, zero, suc, ◌+◌, ◌-◌, ◌<◌, ◌≤◌, min}
use mathlib.Core.List.{List, [], ◌∷◌, ◌++◌, map}
use mathlib.Core.Path.{◌≡◌, refl, ap, ◌∙◌}
use native.Mathlib.Nat.{le_of_suc-le-suc, not-suc-le-zero}
use native.Mathlib.Omega.{arith}
use lib.ListN.{length, take, get_or, length-map, length-take}
use lib.Seq.{get_or-take}
use Rattle.numbers.specs.Said.{ok, bad}
use Rattle.lines.specs.Lines.{line_said, each_from}

pub line-next : (x : List ℕ) (xs : List (List ℕ)) (i : ℕ) → (i ≡ 0 → ⊥) → line_said (x ∷ xs) i ≡ line_said xs (i - 1)
line-next x xs zero h = absurd (h refl)
line-next x xs (suc i) h = ap (line_said xs) (omega arith)

pub line_first : (xs ys : List (List ℕ)) (i : ℕ) → i < length xs → line_said (xs ++ ys) i ≡ line_said xs i
line_first [] ys i h = absurd (not-suc-le-zero h)
line_first (x ∷ xs) ys zero h = refl
line_first (x ∷ xs) ys (suc i) h = line_first xs ys i (le_of_suc-le-suc h)

pub line-rest : (xs ys : List (List ℕ)) (i : ℕ) → length xs ≤ i → line_said (xs ++ ys) i ≡ line_said ys (i - length xs)
line-rest [] ys i h = ap (line_said ys) (omega arith)
line-rest (x ∷ xs) ys zero h = absurd (not-suc-le-zero h)
line-rest (x ∷ xs) ys (suc i) h = line-rest xs ys i (le_of_suc-le-suc h) ∙ ap (line_said ys) (omega arith)

pub line-none : (xs : List (List ℕ)) (i : ℕ) → length xs ≤ i → line_said xs i ≡ bad
line-none [] i h = refl
line-none (x ∷ xs) zero h = absurd (not-suc-le-zero h)
line-none (x ∷ xs) (suc i) h = line-none xs i (le_of_suc-le-suc h)

module _ {A : Type 0} (b : A) where
  line-map : (f : A → List ℕ) (xs : List A) (i : ℕ) → i < length xs → line_said (map f xs) i ≡ ok (f (get_or xs i b))
  line-map f [] i h = absurd (not-suc-le-zero h)
  line-map f (x ∷ xs) zero h = refl
  line-map f (x ∷ xs) (suc i) h = line-map f xs i (le_of_suc-le-suc h)

  -- the line of an entry in use, and how many such lines there are
  pub line-here : (f : A → List ℕ) (n : ℕ) (xs : List A) (i : ℕ) → i < min n (length xs) → line_said (map f (take n xs)) i ≡ ok (f (get_or xs i b))
  line-here f n xs i h = line-map f (take n xs) i (rw length-take h) ∙ ap (λ x. ok (f x)) (get_or-take n xs i b (omega arith))

  each_map : (f : ℕ → A → List ℕ) (k : ℕ) (xs : List A) (i : ℕ) → i < length xs → line_said (each_from k f xs) i ≡ ok (f (k + i) (get_or xs i b))
  each_map f k [] i h = absurd (not-suc-le-zero h)
  each_map f k (x ∷ xs) zero h = ap (λ j. ok (f j x)) (omega arith)
  each_map f k (x ∷ xs) (suc i) h = each_map f (suc k) xs i (le_of_suc-le-suc h) ∙ ap (λ j. ok (f j (get_or xs i b))) (omega arith)

  pub each-here : (f : ℕ → A → List ℕ) (n : ℕ) (xs : List A) (i : ℕ) → i < min n (length xs) → line_said (each_from 0 f (take n xs)) i ≡ ok (f i (get_or xs i b))
  each-here f n xs i h =
      each_map f 0 (take n xs) i (rw length-take h)
      ∙ ap (λ j. ok (f j (get_or (take n xs) i b))) (omega arith)
      ∙ ap (λ x. ok (f i x)) (get_or-take n xs i b (omega arith))

module _ {A : Type 0} where
  pub many-lines : (f : A → List ℕ) (n : ℕ) (xs : List A) → length (map f (take n xs)) ≡ min n (length xs)
  many-lines f n xs = length-map (take n xs) f ∙ length-take n xs

  length-each : (f : ℕ → A → List ℕ) (k : ℕ) (xs : List A) → length (each_from k f xs) ≡ length xs
  length-each f k [] = refl
  length-each f k (x ∷ xs) = ap suc (length-each f (suc k) xs)

  pub each-lines : (f : ℕ → A → List ℕ) (n : ℕ) (xs : List A) → length (each_from 0 f (take n xs)) ≡ min n (length xs)
  each-lines f n xs = length-each f 0 (take n xs) ∙ length-take n xs
