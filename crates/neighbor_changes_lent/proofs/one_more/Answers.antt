-- The word of the counts after the change says them.
use mathlib.Core.Path.{sym, ap, ◌∙◌}
use Rattle.neighbor_columns.specs.Codec.{counts_of}
use Rattle.neighbor_columns.proofs.Codec.{counts-back}
use Rattle.neighbor_changes_lent.specs.Counts.{counted}
use Rattle.neighbor_changes_lent.proofs.one_more.Goals as goal

pub returns-in-Sent : goal.returns-in-Sent
returns-in-Sent c = ap counts_of c.counts_word.ensures.0 ∙ counts-back _ c.counts_word.ensures.1 ∙ c.sent.ensures ∙ (λ z. counted (sym c.in-Sent.is z) (c.counts_of-part.ensures z))

pub returns-in-Received : goal.returns-in-Received
returns-in-Received c = ap counts_of c.counts_word-in-Received.ensures.0 ∙ counts-back _ c.counts_word-in-Received.ensures.1 ∙ c.received.ensures ∙ (λ z. counted (sym c.in-Received.is z) (c.counts_of-part.ensures z))

pub returns-in-Failed : goal.returns-in-Failed
returns-in-Failed c = ap counts_of c.counts_word-in-Failed.ensures.0 ∙ counts-back _ c.counts_word-in-Failed.ensures.1 ∙ c.failed.ensures ∙ (λ z. counted (sym c.in-Failed.is z) (c.counts_of-part.ensures z))
