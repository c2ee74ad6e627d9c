-- The bytes passed are those of the word.
-- Assumes nothing.
use mathlib.Core.Path.{◌≡◌}
use lib.ListN.{drop}
use Rattle.words.specs.Words.{past}
use Rattle.words.proofs.past.Given as goal

abbrev pub invariant-loop-b : goal.invariant-loop-b
invariant-loop-b l = past (drop l.b-index l.word) l.j (drop l.j l.table) ≡ past l.word l.at (drop l.at l.table)
