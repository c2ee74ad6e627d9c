-- The numbers after row i are copied to the row before, so that the rows are; the blank row in the last place ends it.
use mathlib.Core.Path.{◌∙◌}
use borrow.Author.Rules.{rules}
use Rattle.relay_store.proofs.Shifts.{none-few, rows-lowered}
use Rattle.relay_store.proofs.shift_rows_down.Goals as goal

pub set_row-requires : goal.set_row-requires
set_row-requires c = (none-few _ c.no_relays.ensures, search rules, c.copy_within.ensures.len ∙ c.requires.1)

pub returns : goal.returns
returns c =
    let e = c.copy_within.ensures in
    rows-lowered _ _ c.args.i c.requires.1 c.requires.0 e.len e.by_index.1 e.by_index.0 _ c.no_relays.ensures _ c.set_row.ensures
