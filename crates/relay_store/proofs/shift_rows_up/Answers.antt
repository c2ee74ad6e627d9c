-- The numbers from row i on are copied to the next row, so that the rows are.
use Rattle.relay_store.proofs.Shifts.{rows-raised}
use Rattle.relay_store.proofs.shift_rows_up.Goals as goal

pub returns : goal.returns
returns c =
    let e = c.copy_within.ensures in
    rows-raised _ _ c.args.i c.requires.1 c.requires.0 e.len e.by_index.1 e.by_index.0
