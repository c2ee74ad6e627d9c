-- Each part is asked of another function.
-- Assumes nothing.
use Rattle.link_status.specs.Statuses.{counted}
use Rattle.link_status.proofs.count_one.Goals as goal

pub returns : goal.returns
unfolding counted
returns c =
    rw (c.pick.ensures, c.eq.ensures, c.add_where-2.ensures, c.add_where.ensures, c.worth_of-by.ensures)
