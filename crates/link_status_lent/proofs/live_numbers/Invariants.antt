-- The numbers written so far, and those of the rows left, are those of all, in every table with these columns.
use mathlib.Core.List.{◌++◌, map}
use mathlib.Core.Path.{◌≡◌}
use lib.ListN.{take, drop}
use Rattle.neighbor_columns.specs.Lent.{Asked}
use Rattle.link_status.specs.Statuses.{live_number}
use Rattle.link_status_lent.specs.Columns.{lent_live}
use Rattle.link_status_lent.proofs.live_numbers.Given as goal

abbrev pub invariant-loop-i : goal.invariant-loop-i
invariant-loop-i l = Asked (lent_live l.nwks l.links l.count) (λ xs. take l.i l.numbers ++ map live_number (drop l.i xs) ≡ map live_number xs)
