-- Case by case.
use Rattle.std.specs.Prelude.{Option, ℕ}
use mathlib.Core.Path.{sym, ap, ◌∙◌}
use Rattle.neighbor_answers.specs.Answers.{quality_numbers}
use Rattle.numbers.specs.Said.{pushed, pushed_all}
use Rattle.numbers.specs.declared.Numbers.{Numbers}
use Rattle.neighbor_answers.proofs.push_quality.Goals as goal

pub returns-in-None : goal.returns-in-None
returns-in-None c = c.push.ensures ∙ ap (λ (q : Option ℕ). pushed_all c.args.n (quality_numbers q)) (sym c.in-None.is)

pub returns-in-Some : goal.returns-in-Some
returns-in-Some c = c.push_byte.ensures ∙ ap (λ (n : Numbers). pushed n c.in-Some.q) c.push-m.ensures ∙ ap (λ (q : Option ℕ). pushed_all c.args.n (quality_numbers q)) (sym c.in-Some.is)
