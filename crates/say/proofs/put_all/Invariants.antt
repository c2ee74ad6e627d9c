-- The bytes left, put on the page as it is, give what all the bytes give.
-- Assumes nothing.
use mathlib.Core.Path.{◌≡◌}
use lib.ListN.{drop}
use Rattle.say.specs.Page.{page, puts}
use Rattle.say.proofs.put_all.Given as goal

abbrev pub invariant-loop-b : goal.invariant-loop-b
invariant-loop-b l = puts (page l.out l.to) (drop l.b-index l.bytes) ≡ puts (page l.initial.out l.at) l.bytes
