-- Each column's end is told, then the count, then whether the keys go up.
use native.Mathlib.Omega.{arith}
use Rattle.standard.proofs.Tells.{not_so, denied}
use Rattle.neighbor_columns.specs.Table.{in_columns}
use Rattle.neighbor_columns.proofs.Told.{not_yes, not-no, all-end-told, order-ends, order-told}
use Rattle.neighbor_columns.proofs.in_order.Goals as goal

pub returns-then-not-all : goal.returns-then-not-all
returns-then-not-all c =
    let a = c.args in
    let t = in_columns a.keys.now a.nwks.now a.links.now a.counts.now a.deadlines.now a.periods.now a.heard.now a.added.now a.beacons.now a.bytes.now a.count in
    let told = all-end-told t c.ends-keys_end.ensures c.ends-nwks_end.ensures c.ends-links_end.ensures c.ends-counts_end.ensures c.ends-deadlines_end.ensures c.ends-periods_end.ensures c.ends-heard_end.ensures c.ends-added_end.ensures c.ends-beacons_end.ensures c.ends-bytes_end.ensures in
    not_so (λ o. denied told (not_yes _ c.if-not-all.true-raw) (order-ends t o))

pub returns-then-count-gt64 : goal.returns-then-count-gt64
returns-then-count-gt64 c = not_so (λ o. omega (arith, c.if-count-gt64.true, o.small))

pub rising-requires : goal.rising-requires
rising-requires c =
    let a = c.args in
    let t = in_columns a.keys.now a.nwks.now a.links.now a.counts.now a.deadlines.now a.periods.now a.heard.now a.added.now a.beacons.now a.bytes.now a.count in
    let told = all-end-told t c.ends-keys_end.ensures c.ends-nwks_end.ensures c.ends-links_end.ensures c.ends-counts_end.ensures c.ends-deadlines_end.ensures c.ends-periods_end.ensures c.ends-heard_end.ensures c.ends-added_end.ensures c.ends-beacons_end.ensures c.ends-bytes_end.ensures in
    omega (arith, (told.fact (not-no _ c.if-not-all.false-raw)).0.0, c.if-count-gt64.false)

pub returns : goal.returns
returns c =
    let a = c.args in
    let t = in_columns a.keys.now a.nwks.now a.links.now a.counts.now a.deadlines.now a.periods.now a.heard.now a.added.now a.beacons.now a.bytes.now a.count in
    let told = all-end-told t c.ends-keys_end.ensures c.ends-nwks_end.ensures c.ends-links_end.ensures c.ends-counts_end.ensures c.ends-deadlines_end.ensures c.ends-periods_end.ensures c.ends-heard_end.ensures c.ends-added_end.ensures c.ends-beacons_end.ensures c.ends-bytes_end.ensures in
    order-told t (told.fact (not-no _ c.if-not-all.false-raw)) (omega (arith, c.if-count-gt64.false)) c.rising.ensures
