-- The first of the rows that are left that fits is the first of all rows, since none of those passed fits.
use mathlib.Core.Path.{◌≡◌}
use lib.ListN.{drop}
use Rattle.standard.specs.Discovery.{awaits}
use Rattle.standard.specs.Query.{first}
use Rattle.discovery_table.specs.Lent.{seen_discoveries}
use Rattle.discovery_table.proofs.DiscoveriesSeen.discovery_deadline.Given as goal

abbrev pub invariant-loop-i : goal.invariant-loop-i
invariant-loop-i l = first (awaits l.destination.0 l.now_ms) (drop l.i (seen_discoveries l.self)) ≡ first (awaits l.destination.0 l.now_ms) (seen_discoveries l.self)
