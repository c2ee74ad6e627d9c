-- The order is told, and then whether every link word in use is clean and sound.
use native.Mathlib.Omega.{arith}
use Rattle.standard.proofs.Tells.{not_so, denied}
use Rattle.neighbor_columns.specs.Table.{in_columns}
use Rattle.neighbor_columns.proofs.Told.{not_yes, not-no, well-formed-is, sound-table}
use Rattle.neighbor_columns.proofs.well_formed.Goals as goal

pub returns-then-not-ordered : goal.returns-then-not-ordered
returns-then-not-ordered c =
    let a = c.args in
    let t = in_columns a.keys.now a.nwks.now a.links.now a.counts.now a.deadlines.now a.periods.now a.heard.now a.added.now a.beacons.now a.bytes.now a.count in
    well-formed-is t (not_so (λ w. denied c.in_order-ordered.ensures (not_yes _ c.if-not-ordered.true-raw) w.formed.ordered))

pub sound_links-requires : goal.sound_links-requires
sound_links-requires c =
    let o = c.in_order-ordered.ensures.fact (not-no _ c.if-not-ordered.false-raw) in
    omega (arith, o.small, o.long.1.1.0)

pub returns : goal.returns
returns c =
    let a = c.args in
    let t = in_columns a.keys.now a.nwks.now a.links.now a.counts.now a.deadlines.now a.periods.now a.heard.now a.added.now a.beacons.now a.bytes.now a.count in
    well-formed-is t (sound-table t (c.in_order-ordered.ensures.fact (not-no _ c.if-not-ordered.false-raw)) c.sound_links.ensures)
