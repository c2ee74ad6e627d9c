-- What is found so far, or is among the rest, is what is among all.
use mathlib.Core.Bool.{◌||◌}
use mathlib.Core.Path.{◌≡◌}
use lib.ListN.{drop}
use Rattle.link_status.specs.Statuses.{among}
use Rattle.link_status_lent.proofs.is_among.Given as goal

abbrev pub invariant-loop-number : goal.invariant-loop-number
invariant-loop-number l = (l.found || among l.x (drop l.number-index l.number-items)) ≡ among l.x l.number-items
