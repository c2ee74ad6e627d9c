-- A step of putting a list in order: two neighbours, the smaller first.
-- Assumes nothing.
use Rattle.std.specs.Prelude.{ℕ, zero, suc, min, max, List, [], ◌∷◌}

-- the list with the element at i and the one after it in ascending order
abbrev pub exchanged : ℕ → List ℕ → List ℕ
exchanged i [] = []
exchanged i (x ∷ []) = x ∷ []
exchanged zero (x ∷ y ∷ r) = min x y ∷ max x y ∷ r
exchanged (suc i) (x ∷ y ∷ r) = x ∷ exchanged i (y ∷ r)
