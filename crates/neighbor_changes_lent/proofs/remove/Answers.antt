-- What the step leaves is well formed, as what it starts from is.
use Rattle.neighbor_columns.specs.Table.{in_columns}
use Rattle.neighbor_columns.proofs.Rows.{remove-holds}
use Rattle.neighbor_changes_lent.proofs.remove.Goals as goal

pub remove-requires : goal.remove-requires
remove-requires c = c.requires.formed

pub returns : goal.returns
returns c =
    let a = c.args in
    let t = in_columns a.keys.now a.nwks.now a.links.now a.counts.now a.deadlines.now a.periods.now a.heard.now a.added.now a.beacons.now a.bytes.now a.count in
    remove-holds t _ a.eui64.0 c.requires c.remove.ensures
