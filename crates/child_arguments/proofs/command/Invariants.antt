-- The places read so far hold what was read, and the others are blank.
use mathlib.Core.Path.{◌≡◌}
use Rattle.child_arguments.specs.Arguments.{command_to}
use Rattle.child_arguments.proofs.command.Given as goal

abbrev pub invariant-loop-i : goal.invariant-loop-i
invariant-loop-i l = l.command ≡ command_to l.args l.i
