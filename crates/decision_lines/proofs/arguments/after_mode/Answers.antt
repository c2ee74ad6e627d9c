-- What the mode takes, after the place where it starts.
use native.Mathlib.Omega.{arith}
use Rattle.decision_lines.proofs.Modes.{length-near}
use Rattle.decision_lines.specs.Arguments.{past_mode}
use Rattle.decision_lines.proofs.arguments.after_mode.Goals as goal

pub overflow_add-result : goal.overflow_add-result
overflow_add-result c = omega (arith, c.requires, c.mode_length-length.ensures, length-near c.at-2.result c.min-count.result (omega (arith, c.min-count.ensures)))

pub returns : goal.returns
unfolding past_mode
returns c = rw (c.mode_length-length.ensures, c.at-2.ensures, c.min-count.ensures, c.at.ensures)
