-- The answer so far, or the answer over the rows left, is the answer over all rows.
use Rattle.standard.specs.Discovery.{names}
use Rattle.discovery_table.specs.Lent.{seen_table}
use Rattle.discovery_table.proofs.Asked.{Asked}
use Rattle.discovery_table.proofs.DiscoveriesSeen.names.Given as goal

abbrev pub invariant-loop-i : goal.invariant-loop-i
invariant-loop-i l = Asked (seen_table l.self) (names l.wanted) l.found l.i
