-- The places read so far hold what was read, and the others are blank.
use mathlib.Core.Path.{◌≡◌}
use Rattle.child_arguments.specs.Arguments.{names_to}
use Rattle.child_arguments.proofs.names.Given as goal

abbrev pub invariant-loop-i : goal.invariant-loop-i
invariant-loop-i l = l.list ≡ names_to l.args l.i
