-- What is put so far, with the elements that are left, is the whole list.
use mathlib.Core.Path.{◌≡◌}
use Rattle.neighbor_values.proofs.Pushes.{from}
use Rattle.neighbor_values.specs.Values.{status_numbers}
use Rattle.numbers.specs.Said.{pushed_all}
use Rattle.neighbor_values.proofs.push_statuses.Given as goal

abbrev pub invariant-loop-i : goal.invariant-loop-i
invariant-loop-i l = pushed_all l.m (from status_numbers l.list.statuses l.count l.i) ≡ pushed_all l.initial.m (from status_numbers l.list.statuses l.count 0)
