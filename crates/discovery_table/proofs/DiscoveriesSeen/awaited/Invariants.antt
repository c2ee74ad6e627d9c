-- The answer so far, or the answer over the rows left, is the answer over all rows.
use Rattle.standard.specs.Discovery.{awaits}
use Rattle.discovery_table.specs.Lent.{seen_table}
use Rattle.discovery_table.proofs.Asked.{Asked}
use Rattle.discovery_table.proofs.DiscoveriesSeen.awaited.Given as goal

abbrev pub invariant-loop-i : goal.invariant-loop-i
invariant-loop-i l = Asked (seen_table l.self) (awaits l.wanted l.now_ms) l.found l.i
