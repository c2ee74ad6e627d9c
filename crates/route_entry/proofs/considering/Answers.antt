-- A candidate that suits is written, any other leaves the route; what it reports goes the same way.
-- Assumes nothing.
use mathlib.Core.Path.{sym, ◌∙◌}
use Rattle.standard.specs.Route.{considering}
use Rattle.route_entry.proofs.considering.Goals as goal

pub returns-then-suits : goal.returns-then-suits
unfolding considering
returns-then-suits c = rw (c.news.ensures, sym c.suits.ensures ∙ c.if-suits.true)

pub returns : goal.returns
unfolding considering
returns c = rw (sym c.suits.ensures ∙ c.if-suits.false)
