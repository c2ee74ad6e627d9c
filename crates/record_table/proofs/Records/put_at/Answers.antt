-- Over the entry that is there, or put in where it is missing, for which there is room.
-- Assumes nothing.
use mathlib.Core.Path.{sym, ◌∙◌}
use Rattle.record_table.specs.Lent.{table}
use Rattle.record_table.proofs.Lent.{formed}
use Rattle.record_table.proofs.Rows.{free}
use Rattle.record_table.proofs.Records.put_at.Goals as goal

pub set_at-requires : goal.set_at-requires
set_at-requires c = (sym c.in-Ok.is ∙ c.requires.0, c.requires.2)

pub insert_at-requires : goal.insert_at-requires
insert_at-requires c =
    let r = c.args.self.now in
    let p = sym c.in-Err.is ∙ c.requires.0 in
    (p, free (table r) (formed r) _ _ p c.requires.1, c.requires.2)
