-- Each column has 64 places.
-- Assumes nothing.
use native.Mathlib.Omega.{arith}
use Rattle.record_table.proofs.Lent.{seen-formed}
use Rattle.record_table.proofs.RecordsSeen.entry_at.Goals as goal

pub entry_at-requires : goal.entry_at-requires
entry_at-requires c =
    let o = (seen-formed c.args.self.now).ordered in
    (omega (arith, c.requires, o.long.0), omega (arith, c.requires, o.long.1.0))
