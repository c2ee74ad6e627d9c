-- The place at which an address is found is in use, and so in every column.
use Rattle.std.specs.Prelude.{Ok}
use Prim.Native.Nat.{ℕ, ◌<◌, ◌≤◌}
use native.Mathlib.Omega.{arith}
use mathlib.Core.List.{List}
use mathlib.Core.Path.{◌≡◌}
use lib.ListN.{length, take}
use lib.Seq.{length-take-le}
use Rattle.flat_map.specs.Seek.{place_of}
use Rattle.flat_map.proofs.Places.{placed_at}

pub found-in-use : (keys : List ℕ) (n k i : ℕ) → n ≤ length keys → Ok i ≡ place_of (take n keys) k → i < n
found-in-use keys n k i h p = omega (arith, (placed_at (take n keys) k (Ok i) p).0, length-take-le n keys h)
