-- The columns are well formed at every turn: those of the state first, then as each call leaves them.
use Rattle.neighbor_columns.specs.Table.{in_columns, WellFormed}
use Rattle.waiting_columns.specs.Table as waits
use Rattle.speed_links.proofs.links_held.Given as goal

abbrev pub invariant-loop-row : goal.invariant-loop-row
invariant-loop-row l =
    WellFormed (in_columns l.keys l.nwks l.links l.counts l.deadlines l.periods l.heard l.added l.beacons l.bytes l.count) × waits.WellFormed (waits.in_columns l.senders l.samples l.waiting)
