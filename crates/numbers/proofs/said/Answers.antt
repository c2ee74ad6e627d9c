-- The values are put after none.
use mathlib.Core.Path.{◌∙◌, ap}
use Rattle.numbers.specs.declared.Numbers.{Numbers}
use Rattle.numbers.specs.Said.{pushed_all}
use Rattle.numbers.proofs.said.Goals as goal

pub returns : goal.returns
returns c =
    c.answered.ensures
    ∙ ap (λ (n : Numbers). record { kind = 0; numbers = n }) (c.push_each.ensures ∙ ap (λ (n : Numbers). pushed_all n c.args.xs.now) c.none-n.ensures)
