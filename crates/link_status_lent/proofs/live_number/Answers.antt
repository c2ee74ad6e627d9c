-- The link is live or not, as the definition asks.
use borrow.Author.Tests.{lt-ltb, le-ltb}
use Rattle.link_status_lent.proofs.live_number.Goals as goal

pub returns-then-link-gt0 : goal.returns-then-link-gt0
returns-then-link-gt0 c =
    rw (lt-ltb _ _ c.if-link-gt0.true)

pub returns-else-link-gt0 : goal.returns-else-link-gt0
returns-else-link-gt0 c =
    rw (le-ltb _ _ c.if-link-gt0.false)
