-- Case by case.
use Rattle.std.specs.Prelude.{Option, ℕ}
use mathlib.Core.Path.{sym, ap, ◌∙◌}
use Rattle.frame.specs.Numbers.{byte_numbers}
use Rattle.numbers.specs.Said.{pushed, pushed_all}
use Rattle.numbers.specs.declared.Numbers.{Numbers}
use Rattle.decision_lines.proofs.header.push_optional_byte.Goals as goal

pub returns-in-None : goal.returns-in-None
returns-in-None c = c.push.ensures ∙ ap (λ (a : Option ℕ). pushed_all c.args.n (byte_numbers a)) (sym c.in-None.is)

pub returns-in-Some : goal.returns-in-Some
returns-in-Some c = c.push_byte.ensures ∙ ap (λ (n : Numbers). pushed n c.in-Some.b) c.push-m.ensures ∙ ap (λ (a : Option ℕ). pushed_all c.args.n (byte_numbers a)) (sym c.in-Some.is)
