-- A table by value: an array of keys, an array of entries, and how many places are in use.
-- Document 01: "counts within capacity, keys strictly ascending and equal to the entry's own fields, .. unused places blank".
-- Assumes nothing.
use Rattle.std.specs.Prelude.{ℕ, ◌+◌, ◌<◌, ◌≤◌, Bool, true, ◌&&◌, List, [], ◌∷◌, map, ◌≡◌, ltb, length, get_or}
use Rattle.standard.specs.Ordered.{Ascending}
use Rattle.flat_map.specs.Rows.{pad}

-- the first n keys go up strictly
abbrev pub Rising : List ℕ → ℕ → Type 0
Rising xs n = (i : ℕ) → i + 1 < n → get_or xs i 0 < get_or xs (i + 1) 0

-- the keys from n on are 0
abbrev pub ZeroFrom : List ℕ → ℕ → Type 0
ZeroFrom xs n = (i : ℕ) → n ≤ i → get_or xs i 0 ≡ 0

-- the keys go up strictly, computed
abbrev pub ascends : List ℕ → Bool
ascends [] = true
ascends (x ∷ []) = true
ascends (x ∷ y ∷ r) = ltb x y && ascends (y ∷ r)

-- each element has a property
abbrev pub Each : {A : Type 0} → (A → Type 0) → List A → Type 0
Each P [] = Unit {0}
Each P (x ∷ xs) = P x × Each P xs

-- every element passes a test
abbrev pub every : {A : Type 0} → (A → Bool) → List A → Bool
every p [] = true
every p (x ∷ xs) = p x && every p xs

module _ {E : Type 0} (cap : ℕ) (key_of : E → ℕ) (blank : E) where
  -- a table of `cap` places that is well formed
  pub record Formed (keys : List ℕ) (entries : List E) (count : ℕ) : Type 0 where
    pub key-places : length keys ≡ cap
    pub entry-places : length entries ≡ cap
    pub small : count ≤ cap
    pub rising : Rising keys count
    pub own : (i : ℕ) → i < count → get_or keys i 0 ≡ key_of (get_or entries i blank)
    pub zeros : ZeroFrom keys count
    pub blanks : (i : ℕ) → count ≤ i → get_or entries i blank ≡ blank

  -- rows that a table can hold
  pub record Fit (xs : List E) : Type 0 where
    pub small : length xs ≤ cap
    pub ascending : Ascending key_of xs

  -- the arrays and the count of a table that holds the rows xs
  pub record Holds (keys : List ℕ) (entries : List E) (count : ℕ) (xs : List E) : Type 0 where
    pub keys-are : keys ≡ pad cap 0 (map key_of xs)
    pub entries-are : entries ≡ pad cap blank xs
    pub count-is : count ≡ length xs
