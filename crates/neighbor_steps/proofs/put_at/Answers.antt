-- The place is that of the row's address: the row is stored over the one that is there, or put in where there is room.
use mathlib.Core.Path.{sym, ◌∙◌}
use Rattle.neighbor_columns.specs.Table.{in_columns}
use Rattle.neighbor_columns.proofs.Rows.{free}
use Rattle.neighbor_steps.proofs.put_at.Goals as goal

pub set_at-requires : goal.set_at-requires
set_at-requires c = (c.requires.0, (sym c.in-Ok.is ∙ c.requires.1))

pub insert_at-requires : goal.insert_at-requires
insert_at-requires c =
    let a = c.args in
    let t = in_columns a.keys.now a.nwks.now a.links.now a.counts.now a.deadlines.now a.periods.now a.heard.now a.added.now a.beacons.now a.bytes.now a.count in
    (c.requires.0, (sym c.in-Err.is ∙ c.requires.1), free t c.requires.0 _ _ (sym c.in-Err.is ∙ c.requires.1) c.requires.2)

pub returns-in-Ok : goal.returns-in-Ok
returns-in-Ok c = c.set_at.ensures

pub returns-in-Err : goal.returns-in-Err
returns-in-Err c = c.insert_at.ensures
