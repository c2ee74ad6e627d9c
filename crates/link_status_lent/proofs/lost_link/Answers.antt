-- By the test.
use mathlib.Core.Path.{sym}
use Rattle.neighbor_queries.proofs.Checked.{picks_first, picks_second}
use Rattle.link_status_lent.proofs.lost_link.Goals as goal

pub returns-then-had-x : goal.returns-then-had-x
returns-then-had-x c =
    sym (picks_first _ _ c.if-had-x.true)

pub returns-else-had-x : goal.returns-else-had-x
returns-else-had-x c =
    sym (picks_second _ _ c.if-had-x.false)
