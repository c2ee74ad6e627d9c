-- At each turn the rest of the shift, done now, gives the whole shift.
use mathlib.Core.Path.{◌≡◌}
use Rattle.flat_map.specs.Shift.{shift_out}
use Rattle.columns.proofs.shift_out.Given as goal

abbrev pub invariant-loop-j : goal.invariant-loop-j
invariant-loop-j g l = shift_out l.j l.blank l.a ≡ shift_out l.i l.blank l.initial.a
