-- A table in columns of numbers: what stands in place i of every column is one entry. The first column holds the keys.
-- Document 01, "Well formed": "counts within capacity, keys strictly ascending .., unused places blank"; that a key is the entry's own field
-- holds by construction, since the entry is read from it.
-- Assumes nothing.
use Rattle.std.specs.Prelude.{ℕ, zero, suc, ◌<◌, ◌≤◌, Bool, true, ◌&&◌, List, [], ◌∷◌, ◌≡◌, eqb, leb, ltb, length, get_or, set, take, drop}
use Rattle.flat_map.specs.Shift.{shift_in, shift_out}
use Rattle.flat_map.specs.Table.{Rising, ZeroFrom, ascends, every}

-- n places, what stands in each given by its number
unfoldable pub places : {E : Type 0} → ℕ → (ℕ → E) → List E
places zero f = []
places (suc n) f = f zero ∷ places n (λ i. f (suc i))

-- the numbers in place i of every column
abbrev pub at : ℕ → List (List ℕ) → List ℕ
at i [] = []
at i (c ∷ cs) = get_or c i 0 ∷ at i cs

-- the entries of n places, each read from its numbers
abbrev pub entries : {E : Type 0} → (List ℕ → E) → ℕ → List (List ℕ) → List E
entries read n cs = places n (λ i. read (at i cs))

-- every column has n places
abbrev pub Long : ℕ → List (List ℕ) → Type 0
Long n [] = Unit {0}
Long n (c ∷ cs) = (length c ≡ n) × Long n cs

-- a number stored, put in or taken out at place i of every column
abbrev pub sets : ℕ → List ℕ → List (List ℕ) → List (List ℕ)
sets i vs [] = []
sets i [] (c ∷ cs) = c ∷ sets i [] cs
sets i (v ∷ vs) (c ∷ cs) = set c i v ∷ sets i vs cs

abbrev pub ins : ℕ → List ℕ → List (List ℕ) → List (List ℕ)
ins i vs [] = []
ins i [] (c ∷ cs) = shift_in i 0 c ∷ ins i [] cs
ins i (v ∷ vs) (c ∷ cs) = shift_in i v c ∷ ins i vs cs

abbrev pub outs : ℕ → List (List ℕ) → List (List ℕ)
outs i [] = []
outs i (c ∷ cs) = shift_out i 0 c ∷ outs i cs

-- as many zeros
abbrev pub noughts : ℕ → List ℕ
noughts zero = []
noughts (suc n) = 0 ∷ noughts n

-- every column is 0 from place m on
abbrev pub ZerosFrom : ℕ → List (List ℕ) → Type 0
ZerosFrom m [] = Unit {0}
ZerosFrom m (c ∷ cs) = ZeroFrom c m × ZerosFrom m cs

-- every number of a column is below a bound
abbrev pub Under : ℕ → List ℕ → Type 0
Under m xs = (i : ℕ) → get_or xs i 0 < m

-- r is the first of n places where x stands; n where it stands in none
pub record FirstAt (xs : List ℕ) (n x r : ℕ) : Type 0 where
  pub within : r ≤ n
  pub before : (j : ℕ) → j < r → get_or xs j 0 ≡ x → ⊥
  pub there : r < n → get_or xs r 0 ≡ x

-- columns of `cap` places of which n are in use: the keys go up, and what is not in use is 0
pub record Ordered (cap : ℕ) (keys : List ℕ) (others : List (List ℕ)) (n : ℕ) : Type 0 where
  pub long : Long cap (keys ∷ others)
  pub small : n ≤ cap
  pub rising : Rising keys n
  pub zeros : ZerosFrom n (keys ∷ others)

-- the same, computed
abbrev pub are_long : ℕ → List (List ℕ) → Bool
are_long n [] = true
are_long n (c ∷ cs) = eqb (length c) n && are_long n cs

abbrev pub are_zero : ℕ → List (List ℕ) → Bool
are_zero m [] = true
are_zero m (c ∷ cs) = every (eqb 0) (drop m c) && are_zero m cs

abbrev pub are_under : ℕ → List ℕ → Bool
are_under m xs = every (λ x. ltb x m) xs

unfoldable pub ordered : ℕ → List ℕ → List (List ℕ) → ℕ → Bool
ordered cap keys others n = are_long cap (keys ∷ others) && (leb n cap && (ascends (take n keys) && are_zero n (keys ∷ others)))
