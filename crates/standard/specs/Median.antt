-- The median of a list of samples. Document 01, "Decision (001) and neighbours (003)": "For the median the three samples go by
-- value into an array, are put in order, and the middle one is taken."
-- Assumes nothing.
use Rattle.std.specs.Prelude.{ℕ, suc, ◌/◌, ◌≤◌, cond, List, [], ◌∷◌, ◌≡◌, eqb, leb, length, get_or}

-- how often n stands in a list
abbrev pub times : ℕ → List ℕ → ℕ
times n [] = 0
times n (x ∷ xs) = cond (eqb n x) (suc (times n xs)) (times n xs)

-- n is at most the first of a list
abbrev pub AtMostFirst : ℕ → List ℕ → Type 0
AtMostFirst n [] = Unit {0}
AtMostFirst n (x ∷ xs) = n ≤ x

-- each element is at most the next
abbrev pub Ascending : List ℕ → Type 0
Ascending [] = Unit {0}
Ascending (x ∷ xs) = AtMostFirst x xs × Ascending xs

-- r is s put in order: the same numbers, each as often, and ascending
pub record Ordered (s r : List ℕ) : Type 0 where
  pub same : (n : ℕ) → times n r ≡ times n s
  pub ascending : Ascending r

-- x put in before the first element that is not below it
abbrev pub put_in : ℕ → List ℕ → List ℕ
put_in x [] = x ∷ []
put_in x (y ∷ ys) = cond (leb x y) (x ∷ y ∷ ys) (y ∷ put_in x ys)

-- a list put in order, computed
abbrev pub in_order_of : List ℕ → List ℕ
in_order_of [] = []
in_order_of (x ∷ xs) = put_in x (in_order_of xs)

-- the middle one of a list
abbrev pub middle : List ℕ → ℕ
middle xs = get_or xs (length xs / 2) 0

-- the middle one of a list put in order
abbrev pub median_of : List ℕ → ℕ
median_of s = middle (in_order_of s)
