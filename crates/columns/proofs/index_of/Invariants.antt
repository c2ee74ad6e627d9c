-- The keys before `r` are below the one looked for, and those from there up to `i` are not.
use Rattle.columns.proofs.Split.{Split}
use Rattle.columns.proofs.index_of.Given as goal

abbrev pub invariant-loop-i : goal.invariant-loop-i
invariant-loop-i g l =
    let m = g.K.Number in
    Split (m.nats l.keys) (m.nat l.key) (m.nat l.r) l.i
