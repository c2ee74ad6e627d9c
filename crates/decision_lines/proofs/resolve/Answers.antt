-- The numbers read, the call made, and its answer said.
use native.Mathlib.Omega.{arith}
use Rattle.decision_lines.specs.Lines.{resolve_call}
use Rattle.decision_lines.proofs.Modes.{mode-near}
use Rattle.decision_lines.proofs.resolve.Goals as goal

pub header-header-requires : goal.header-header-requires
header-header-requires c = omega (arith, c.after_mode.ensures, mode-near c.args.args.now 3)

pub returns : goal.returns
unfolding resolve_call
returns c = rw (c.resolve_answer.ensures, c.resolve-said.ensures, c.header-header.ensures, c.after_mode.ensures, c.mode-mode.ensures, c.policy-policy.ensures)
