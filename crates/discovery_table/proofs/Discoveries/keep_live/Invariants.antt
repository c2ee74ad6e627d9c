-- At each turn the rest of the sweep, done now, gives the discoveries that are live; the same columns are lent.
-- The measure is the rows not passed, which a removal lessens too.
use Prim.Native.Nat.{◌-◌}
use Rattle.standard.specs.Discovery.{live}
use Rattle.standard.specs.Ordered.{keep}
use Rattle.discovery_table.specs.Lent.{discoveries_of, SameColumns}
use Rattle.discovery_table.proofs.Swept.{Swept}
use Rattle.discovery_table.proofs.Discoveries.keep_live.Given as goal

abbrev pub invariant-loop-i : goal.invariant-loop-i
invariant-loop-i l = SameColumns l.initial.self l.self × Swept l.now_ms (keep (live l.now_ms) (discoveries_of l.initial.self)) l.self.keys.now l.self.words.now l.self.ends.now l.self.count l.i

abbrev pub decreases-loop-i : goal.decreases-loop-i
decreases-loop-i l = l.self.count - l.i
