-- The numbers left, put on the page as it is, give what all of them give.
-- Assumes nothing.
use mathlib.Core.Path.{◌≡◌}
use lib.ListN.{drop, take}
use Rattle.say.specs.Page.{page, puts}
use Rattle.say.specs.Text.{spaced}
use Rattle.say.proofs.put_numbers.Given as goal

abbrev pub invariant-loop-i : goal.invariant-loop-i
invariant-loop-i l = puts (page l.out l.to) (spaced (drop l.i (take l.end l.xs))) ≡ puts (page l.initial.out l.at) (spaced (drop l.from (take l.end l.xs)))
