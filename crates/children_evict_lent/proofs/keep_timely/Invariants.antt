-- At each turn the rest of the sweep, done now, gives the rows that stay. The measure is the rows not passed, which a removal lessens too.
use Prim.Native.Nat.{◌-◌}
use Rattle.standard.specs.Ordered.{keep}
use Rattle.neighbor_columns.specs.Table.{in_columns, rows_of}
use Rattle.neighbor_columns.proofs.Sweeps.{Sweeping}
use Rattle.neighbor_queries.specs.declared.Filter.TheVariants.{TimedOut}
use Rattle.neighbor_changes.specs.Change.{misses}
use Rattle.children_evict_lent.proofs.keep_timely.Given as goal

abbrev pub invariant-loop-i : goal.invariant-loop-i
invariant-loop-i l = Sweeping (misses (TimedOut l.now_ms)) (keep (misses (TimedOut l.now_ms)) (rows_of (in_columns l.initial.keys l.initial.nwks l.initial.links l.initial.counts l.initial.deadlines l.initial.periods l.initial.heard l.initial.added l.initial.beacons l.initial.bytes l.count))) (in_columns l.keys l.nwks l.links l.counts l.deadlines l.periods l.heard l.added l.beacons l.bytes l.n) l.i

abbrev pub decreases-loop-i : goal.decreases-loop-i
decreases-loop-i l = l.n - l.i
