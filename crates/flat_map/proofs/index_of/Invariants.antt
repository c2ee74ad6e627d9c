-- The keys before `low` are below the one looked for, and those from `high` on above it; since the keys go up,
-- one comparison moves either bound. The measure is what lies between.
use Prim.Native.Nat.{ℕ, ◌≤◌, ◌<◌, ◌-◌}
use lib.ListN.{get_or}
use Rattle.flat_map.proofs.Places.{Below}
use Rattle.flat_map.proofs.index_of.Given as goal

abbrev pub invariant-loop-low : goal.invariant-loop-low
invariant-loop-low l =
    (l.low ≤ l.high) × (l.high ≤ l.count) × Below l.keys l.key l.low × ((m : ℕ) → l.high ≤ m → m < l.count → l.key < get_or l.keys m 0)

abbrev pub decreases-loop-low : goal.decreases-loop-low
decreases-loop-low l = l.high - l.low
