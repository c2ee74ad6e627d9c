-- The order is told, and then whether every link word is clean.
use Rattle.standard.proofs.Tells.{not_so, denied}
use Rattle.neighbor_columns.specs.Table.{in_columns}
use Rattle.neighbor_columns.proofs.Told.{not_yes, not-no, formed-is, clean-table}
use Rattle.neighbor_columns.proofs.formed.Goals as goal

pub returns-then-not-ordered : goal.returns-then-not-ordered
returns-then-not-ordered c =
    let a = c.args in
    let t = in_columns a.keys.now a.nwks.now a.links.now a.counts.now a.deadlines.now a.periods.now a.heard.now a.added.now a.beacons.now a.bytes.now a.count in
    formed-is t (not_so (λ f. denied c.in_order-ordered.ensures (not_yes _ c.if-not-ordered.true-raw) f.ordered))

pub returns : goal.returns
returns c =
    let a = c.args in
    let t = in_columns a.keys.now a.nwks.now a.links.now a.counts.now a.deadlines.now a.periods.now a.heard.now a.added.now a.beacons.now a.bytes.now a.count in
    formed-is t (clean-table t (c.in_order-ordered.ensures.fact (not-no _ c.if-not-ordered.false-raw)) c.clean_links.ensures)
