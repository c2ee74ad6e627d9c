-- At each turn the answer is that of the relays passed.
use mathlib.Core.Path.{◌≡◌}
use lib.ListN.{take}
use Rattle.route_record.specs.Answer.{among}
use Rattle.route_record.proofs.is_among.Given as goal

abbrev pub invariant-loop-b : goal.invariant-loop-b
invariant-loop-b l = l.found ≡ among l.a.0 (take l.b-index l.b-items)
