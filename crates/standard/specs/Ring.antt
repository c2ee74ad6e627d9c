-- What a ring of samples means: the list of the samples held, oldest first. Document 01, "Modules, leaves first": it holds the "last three link
-- samples", and "a push overwrites the oldest of three samples".
-- Assumes nothing.
use Rattle.std.specs.Prelude.{ℕ, ◌-◌, List, [], ◌∷◌, ◌++◌, length, drop}

-- the last three of a list, or all of fewer
abbrev pub last_three : List ℕ → List ℕ
last_three xs = drop (length xs - 3) xs

-- the samples held after one more is pushed
abbrev pub pushed : List ℕ → ℕ → List ℕ
pushed held value = last_three (held ++ (value ∷ []))
