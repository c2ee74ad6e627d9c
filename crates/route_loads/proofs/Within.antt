-- A place and a number of which neither test tells that it is past its bound are within their bounds.
-- Assumes nothing.
use Prim.Native.Nat.{ℕ, ◌<◌, ◌≤◌}
use mathlib.Core.Bool.{Bool, true, false, ◌||◌, false≢true}
use mathlib.Core.Path.{◌≡◌, refl, sym}
use borrow.Author.Tests.{leb-false, ltb-false}
use lib.Dec.{leb, ltb}

neither : (a b : Bool) → (a || b) ≡ false → (a ≡ false) × (b ≡ false)
neither true b e = absurd (false≢true (sym e))
neither false b e = (refl, e)

pub within : (places i most k : ℕ) → (leb places i || ltb most k) ≡ false → (i < places) × (k ≤ most)
within places i most k e = let p = neither (leb places i) (ltb most k) e in (leb-false places i p.0, ltb-false most k p.1)
