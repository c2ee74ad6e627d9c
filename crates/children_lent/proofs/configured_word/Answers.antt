-- The word of the counts with the configuration says them.
use mathlib.Core.Path.{ap, ◌∙◌}
use Rattle.neighbor_columns.specs.Codec.{counts_of}
use Rattle.neighbor_columns.proofs.Codec.{counts-back}
use Rattle.children_lent.specs.Parts.{configured}
use Rattle.children_lent.proofs.configured_word.Goals as goal

pub returns : goal.returns
returns c = ap counts_of c.counts_word.ensures.0 ∙ counts-back _ c.counts_word.ensures.1 ∙ ap (configured c.args.configuration) c.counts_of-part.ensures
