-- The bytes passed hold no line feed.
-- Assumes nothing.
use mathlib.Core.Path.{◌≡◌}
use Prim.Native.Nat.{◌+◌}
use lib.ListN.{drop}
use Rattle.script.specs.Reading.{until_feed}
use Rattle.script.proofs.line_end.Given as goal

abbrev pub invariant-loop-i : goal.invariant-loop-i
invariant-loop-i l = l.i + until_feed (drop l.i l.bytes) ≡ l.from + until_feed (drop l.from l.bytes)
