-- A row changed under its key, and the least of numbers that may be missing.
-- Assumes nothing.
use Rattle.std.specs.Prelude.{ℕ, min, List, [], ◌∷◌, Option, Some, None}
use Rattle.standard.specs.Ordered.{put}

-- a row that was found, changed and put back under its key; where none was found nothing changes
abbrev pub put_back : {E : Type 0} → (E → ℕ) → (E → E) → Option E → List E → List E
put_back key_of f None xs = xs
put_back key_of f (Some e) xs = put key_of (f e) xs

-- the lesser of two numbers that may be missing
abbrev pub lesser : Option ℕ → Option ℕ → Option ℕ
lesser None b = b
lesser (Some m) None = Some m
lesser (Some m) (Some n) = Some (min m n)

-- the least of a list, if it has one
abbrev pub least : List ℕ → Option ℕ
least [] = None
least (x ∷ xs) = lesser (Some x) (least xs)
