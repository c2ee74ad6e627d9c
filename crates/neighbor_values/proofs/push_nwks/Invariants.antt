-- What is put so far, with the elements that are left, is the whole list.
use mathlib.Core.Path.{◌≡◌}
use Rattle.neighbor_values.proofs.Pushes.{from}
use Rattle.neighbor_values.specs.Values.{nwk_numbers}
use Rattle.numbers.specs.Said.{pushed_all}
use Rattle.neighbor_values.proofs.push_nwks.Given as goal

abbrev pub invariant-loop-i : goal.invariant-loop-i
invariant-loop-i l = pushed_all l.m (from nwk_numbers l.list.addresses l.count l.i) ≡ pushed_all l.initial.m (from nwk_numbers l.list.addresses l.count 0)
