-- The test is the definition's: Active, and by that hop already.
-- Assumes nothing.
use Rattle.standard.specs.Route.{news}
use Rattle.route_entry.proofs.news.Goals as goal

pub returns-then-is_active-eq : goal.returns-then-is_active-eq
unfolding news
returns-then-is_active-eq c = rw (rw (c.is_active.ensures, c.eq.ensures) at c.if-is_active-eq.true)

pub returns : goal.returns
unfolding news
returns c = rw (rw (c.is_active.ensures, c.eq.ensures) at c.if-is_active-eq.false)
