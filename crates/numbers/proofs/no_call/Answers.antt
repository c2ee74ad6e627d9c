-- No number is said.
use mathlib.Core.Path.{ap}
use Rattle.numbers.specs.declared.Numbers.{Numbers}
use Rattle.numbers.proofs.no_call.Goals as goal

pub returns : goal.returns
returns c = ap (λ (n : Numbers). record { kind = 2; numbers = n }) c.none-numbers.ensures
