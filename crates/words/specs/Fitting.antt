-- How far numbers have been compared with a shape: what is left of the comparison.
-- Assumes nothing.
use Rattle.std.specs.Prelude.{ℕ, ◌+◌, ◌-◌, Bool, cond, ◌&&◌, List, ltb, drop}
use Rattle.words.specs.declared.Want.{Want}
use Rattle.words.specs.Shape.{fit}

-- what has been compared is good, and the numbers left have what is left of the shape
unfoldable pub fit_from : List ℕ → Want → List ℕ → Bool
fit_from s w xs = w.good && fit (drop w.at s) w.kind w.pending xs

-- a place that is further, at most at the end
unfoldable pub ahead : ℕ → ℕ → ℕ → ℕ
ahead at by end = cond (ltb (end - at) by) end (at + by)
