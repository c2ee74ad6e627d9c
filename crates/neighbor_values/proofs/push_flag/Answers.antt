-- Each value is put after those before it.
use mathlib.Core.Path.{ap, ◌∙◌}
use Rattle.numbers.specs.Said.{pushed}
use Rattle.neighbor_values.proofs.push_flag.Goals as goal

pub returns : goal.returns
returns c = c.push.ensures ∙ ap (pushed c.args.n) c.flag_number.ensures
