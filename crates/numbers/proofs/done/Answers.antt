-- No number is answered.
use mathlib.Core.Path.{◌∙◌, ap}
use Rattle.numbers.specs.declared.Numbers.{Numbers}
use Rattle.numbers.proofs.done.Goals as goal

pub returns : goal.returns
returns c = c.answered.ensures ∙ ap (λ (n : Numbers). record { kind = 0; numbers = n }) c.none.ensures
