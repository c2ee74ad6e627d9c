-- What is done with the rest of the list, from here, is what is done with the whole.
use lib.ListN.{take}
use Rattle.neighbor_columns.specs.Table.{in_columns, rows_of}
use Rattle.parent_annce.proofs.Settles.{Settles}
use Rattle.parent_annce.proofs.settle.Given as goal

abbrev pub invariant-loop-i : goal.invariant-loop-i
invariant-loop-i l = Settles l.confirm (take l.fn.list.count l.list.addresses) (rows_of (in_columns l.initial.keys l.initial.nwks l.initial.links l.initial.counts l.initial.deadlines l.initial.periods l.initial.heard l.initial.added l.initial.beacons l.initial.bytes l.count)) (in_columns l.keys l.nwks l.links l.counts l.deadlines l.periods l.heard l.added l.beacons l.bytes l.s.count) l.s l.i
