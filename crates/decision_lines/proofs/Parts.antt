-- Parts of a header, put in turn.
use Prim.Native.Nat.{ℕ}
use mathlib.Core.List.{List, ◌++◌}
use mathlib.Core.Path.{◌≡◌, ◌∙◌}
use Rattle.numbers.specs.declared.Numbers.{Numbers}
use Rattle.numbers.specs.Said.{pushed_all}
use Rattle.neighbor_values.proofs.Pushes.{in-turn}

-- four lists put in turn
pub four : (n : Numbers) (a b c d : List ℕ) → pushed_all (pushed_all (pushed_all (pushed_all n a) b) c) d ≡ pushed_all n (a ++ (b ++ (c ++ d)))
four n a b c d = in-turn (pushed_all (pushed_all n a) b) c d ∙ in-turn (pushed_all n a) b (c ++ d) ∙ in-turn n a (b ++ (c ++ d))
