-- A candidate that suits is written, any other leaves the route; what it reports goes the same way.
-- Assumes nothing.
use mathlib.Core.Path.{sym, ◌∙◌}
use Rattle.standard.specs.Route.{considered}
use Rattle.route_entry.proofs.considered.Goals as goal

pub returns-then-suits : goal.returns-then-suits
unfolding considered
returns-then-suits c = rw (c.via.ensures, sym c.suits.ensures ∙ c.if-suits.true)

pub returns : goal.returns
unfolding considered
returns c = rw (sym c.suits.ensures ∙ c.if-suits.false)
