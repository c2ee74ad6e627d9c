-- Steps that do not disturb each other, and steps that are the same in another dress.
-- Both are over any state, and both speak only of states that meet an invariant which the steps keep.
-- Assumes nothing.
use Rattle.std.specs.Prelude.{◌≡◌}

-- f and g do not disturb each other where I holds: neither changes the other's answer, and their order does not matter
pub record Independent {S X Y O P : Type 0} (I : S → Type 0) (f : X → S → O × S) (g : Y → S → P × S) : Type 0 where
  pub first-keeps : (x : X) (s : S) → I s → I (f x s).1
  pub second-keeps : (y : Y) (s : S) → I s → I (g y s).1
  pub first-answer : (x : X) (y : Y) (s : S) → I s → (f x (g y s).1).0 ≡ (f x s).0
  pub second-answer : (x : X) (y : Y) (s : S) → I s → (g y (f x s).1).0 ≡ (g y s).0
  pub commute : (x : X) (y : Y) (s : S) → I s → (f x (g y s).1).1 ≡ (g y (f x s).1).1

-- the step g does on packed states what f does on those inside, and says so in its own words, where I holds
pub record Packed {S T X O P : Type 0} (I : T → Type 0) (pack : T → S) (say : O → P) (f : X → T → O × T) (g : X → S → P × S) : Type 0 where
  pub keeps : (x : X) (t : T) → I t → I (f x t).1
  pub answer : (x : X) (t : T) → I t → (g x (pack t)).0 ≡ say (f x t).0
  pub state : (x : X) (t : T) → I t → (g x (pack t)).1 ≡ pack (f x t).1
