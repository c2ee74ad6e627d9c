-- Case by case.
use Rattle.std.specs.Prelude.{Option}
use mathlib.Core.Path.{sym, ap, ◌∙◌}
use Rattle.frame.specs.Numbers.{name_numbers}
use Rattle.numbers.specs.Said.{pushed, pushed_all}
use Rattle.numbers.specs.declared.Numbers.{Numbers}
use Rattle.decision_lines.proofs.header.push_optional_eui64.Goals as goal
use Rattle.types.specs.declared.Eui64.{Eui64}

pub returns-in-None : goal.returns-in-None
returns-in-None c = c.push.ensures ∙ ap (λ (a : Option Eui64). pushed_all c.args.n (name_numbers a)) (sym c.in-None.is)

pub returns-in-Some : goal.returns-in-Some
returns-in-Some c = c.push_eui64.ensures ∙ ap (λ (n : Numbers). pushed n c.in-Some.eui64.0) c.push-m.ensures ∙ ap (λ (a : Option Eui64). pushed_all c.args.n (name_numbers a)) (sym c.in-Some.is)
