-- The store and the buffer keep their lengths, and each turn passes a line feed.
-- The measure is the bytes left.
-- Assumes nothing.
use Rattle.std.proofs.Common.{◌≡◌, ◌-◌, length}
use Rattle.replay.proofs.part.Given as goal

abbrev pub invariant-loop-from : goal.invariant-loop-from
invariant-loop-from g l = (length l.store ≡ length l.initial.store) × (length l.out ≡ length l.initial.out)

abbrev pub decreases-loop-from : goal.decreases-loop-from
decreases-loop-from g l = length l.bytes - l.from
