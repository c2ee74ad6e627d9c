-- Every route in use is changed in its place, and none changes its key or its usage count: so the columns hold the rows changed.
use Rattle.standard.specs.Route.{unlinked}
use Rattle.route_table.proofs.Rows.{unlinked-key, unlinked-usage, unlinked-in-range, Changed}
use Rattle.route_table.proofs.invalidate_via.Given as goal

abbrev pub invariant-loop-i : goal.invariant-loop-i
invariant-loop-i l = Changed (unlinked l.hop) (unlinked-key l.hop) (unlinked-usage l.hop) (unlinked-in-range l.hop) l.keys l.initial.words l.usage l.count l.words l.i
