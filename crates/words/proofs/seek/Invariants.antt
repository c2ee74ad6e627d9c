-- The search from here on gives what the whole gives; no more lines than bytes are passed.
-- Assumes nothing.
use mathlib.Core.Bool.{true}
use mathlib.Core.Path.{◌≡◌}
use Prim.Native.Nat.{◌≤◌}
use lib.ListN.{drop}
use Rattle.words.specs.Words.{seek}
use Rattle.words.proofs.seek.Given as goal

abbrev pub invariant-loop-at : goal.invariant-loop-at
invariant-loop-at l = (l.n ≤ l.at) × (seek l.word l.n l.start l.at (drop l.at l.table) ≡ seek l.word 0 true 0 l.table)
