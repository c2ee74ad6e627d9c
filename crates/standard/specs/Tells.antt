-- What it means that a bool answers a question rightly.
-- Assumes nothing.
use Rattle.std.specs.Prelude.{◌≡◌, Bool, true}

-- the answer is true where P holds, and only there
pub record Tells (P : Type 0) (answer : Bool) : Type 0 where
  pub fact : answer ≡ true → P
  pub flag : P → answer ≡ true
