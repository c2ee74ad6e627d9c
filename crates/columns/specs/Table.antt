-- Columns as the rows that they hold, and rows laid into columns.
-- Assumes nothing.
use Rattle.std.specs.Prelude.{ℕ, zero, suc, List, [], ◌∷◌, map, ◌≡◌, length, take, get_or}
use Rattle.flat_map.specs.Rows.{pad}
use Rattle.columns.specs.Columns.{at, entries, Ordered}

-- the rows in n of `cap` places
abbrev pub rows_in : {E : Type 0} → (List ℕ → E) → ℕ → List (List ℕ) → ℕ → List E
rows_in read cap cs n = take n (entries read cap cs)

-- number m of each row, and 0 in every place after them
abbrev pub column : {E : Type 0} → (E → List ℕ) → ℕ → List E → ℕ → List ℕ
column write cap xs m = pad cap 0 (map (λ e. get_or (write e) m 0) xs)

-- the columns from m on
abbrev pub columns_from : {E : Type 0} → (E → List ℕ) → ℕ → List E → ℕ → ℕ → List (List ℕ)
columns_from write cap xs m zero = []
columns_from write cap xs m (suc w) = column write cap xs m ∷ columns_from write cap xs (suc m) w

module _ (cap width : ℕ) (Clean : List ℕ → Type 0) where
  -- columns in order, whose numbers are clean in every place
  pub record Sound (keys : List ℕ) (others : List (List ℕ)) (n : ℕ) : Type 0 where
    pub wide : length (keys ∷ others) ≡ width
    pub ordered : Ordered cap keys others n
    pub clean : (i : ℕ) → Clean (at i (keys ∷ others))
