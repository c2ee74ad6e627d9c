-- The refusal's number is the one value.
use mathlib.Core.Path.{ap, sym, ◌∙◌}
use Rattle.numbers.specs.declared.Numbers.{Numbers}
use Rattle.numbers.proofs.refused.Goals as goal

pub returns : goal.returns
returns c = rw (sym c.none-n.ensures, sym (c.from.ensures ∙ c.number.ensures)) (ap (λ (n : Numbers). record { kind = 1; numbers = n }) c.push-numbers.ensures)
