-- Places that are written one after the other with a number of each element: each turn makes the part that is written one longer, whatever the
-- elements are, and after 64 turns the places are the numbers of all of them.
use Prim.Native.Nat.{ℕ}
use mathlib.Core.List.{List, map}
use mathlib.Core.Path.{◌≡◌}
use lib.ListN.{take}
use Rattle.door_lists.specs.Lists.{Places64}

-- the first i places are written
abbrev pub Written : {A : Type 0} → (A → ℕ) → List A → ℕ → List ℕ → Type 0
Written f xs i out = Places64 out × (take i out ≡ take i (map f xs))
