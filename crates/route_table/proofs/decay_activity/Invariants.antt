-- Every route in use is changed in its place, and none changes its key or its usage count: so the columns hold the rows changed.
use Rattle.standard.specs.Route.{decayed}
use Rattle.route_table.proofs.Rows.{decayed-key, decayed-usage, decayed-in-range, Changed}
use Rattle.route_table.proofs.decay_activity.Given as goal

abbrev pub invariant-loop-i : goal.invariant-loop-i
invariant-loop-i l = Changed decayed decayed-key decayed-usage decayed-in-range l.keys l.initial.words l.usage l.count l.words l.i
