-- Samples that are there are taken out at their place; where there are none the rows stay.
use mathlib.Core.Path.{sym, ◌∙◌}
use Rattle.waiting_columns.specs.Table.{in_columns}
use Rattle.waiting_columns.proofs.Rows.{none_out}
use Rattle.waiting_columns.proofs.remove.Goals as goal

pub remove_at-requires : goal.remove_at-requires
remove_at-requires c = (c.requires, sym c.in-Ok.is ∙ c.place_of-place.ensures)

pub returns-in-Err : goal.returns-in-Err
returns-in-Err c =
    let a = c.args in
    let t = in_columns a.keys.now a.samples.now a.count in
    none_out t c.requires _ _ (sym c.in-Err.is ∙ c.place_of-place.ensures)
