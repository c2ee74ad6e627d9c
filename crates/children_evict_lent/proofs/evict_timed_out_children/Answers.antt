-- The list says how many go, and the sweep leaves what the rule says.
use mathlib.Core.Path.{ap}
use Rattle.neighbor_columns.specs.Table.{in_columns}
use Rattle.neighbor_queries.specs.declared.ChildList.{ChildList}
use Rattle.neighbor_queries_lent.proofs.Ready.{expiry-in-use}
use Rattle.children_evict_lent.proofs.evict_timed_out_children.Goals as goal

pub timed_out_children-removed-requires : goal.timed_out_children-removed-requires
timed_out_children-removed-requires c =
    let a = c.args in
    let t = in_columns a.keys.now a.nwks.now a.links.now a.counts.now a.deadlines.now a.periods.now a.heard.now a.added.now a.beacons.now a.bytes.now a.count in
    expiry-in-use t c.requires.formed

pub drop_late-left-requires : goal.drop_late-left-requires
drop_late-left-requires c =
    let a = c.args in
    let t = in_columns a.keys.now a.nwks.now a.links.now a.counts.now a.deadlines.now a.periods.now a.heard.now a.added.now a.beacons.now a.bytes.now a.count in
    record { formed = c.requires; told = ap (λ (l : ChildList). l.count) (c.timed_out_children-removed.ensures t c.requires.formed) }

pub returns : goal.returns
returns c =
    let a = c.args in
    let t = in_columns a.keys.now a.nwks.now a.links.now a.counts.now a.deadlines.now a.periods.now a.heard.now a.added.now a.beacons.now a.bytes.now a.count in
    ((c.timed_out_children-removed.ensures t c.requires.formed), c.drop_late-left.ensures)
