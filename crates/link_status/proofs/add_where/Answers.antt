-- By the test.
-- Assumes nothing.
use mathlib.Core.Path.{sym, ◌∙◌}
use Rattle.neighbor_queries.proofs.Checked.{picks_first}
use Rattle.link_status.proofs.add_where.Goals as goal

pub returns-then-on : goal.returns-then-on
returns-then-on c = c.saturating_add.ensures ∙ sym (picks_first _ _ c.if-on.true)
