-- What the rest of the statuses makes of the tally so far is what all of them make of the first.
use Prim.Native.Nat.{◌+◌, ◌*◌}
use lib.ListN.{take, drop}
use mathlib.Core.Path.{◌≡◌}
use Rattle.link_status.specs.Statuses.{among, statuses_of, tallied}
use Rattle.link_status_lent.proofs.count_all.Given as goal

abbrev pub invariant-loop-i : goal.invariant-loop-i
invariant-loop-i l = tallied l.own (λ a. among (a.0 * 2 + 1) (take l.n l.numbers)) (drop l.i (statuses_of l.command)) l.x ≡ tallied l.own (λ a. among (a.0 * 2 + 1) (take l.n l.numbers)) (statuses_of l.command) l.initial.x
