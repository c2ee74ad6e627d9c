-- Each column is shifted from the place where the destination is missing, and so the entry is put in.
-- Assumes nothing.
use mathlib.Core.Path.{refl}
use native.Mathlib.Omega.{arith}
use Rattle.record_table.specs.Lent.{table}
use Rattle.record_table.proofs.Lent.{formed, told, holds-as}
use Rattle.record_table.proofs.Rows.{missing-within, put_in}
use Rattle.record_table.proofs.Records.insert_at.Goals as goal

pub shift_in_all-requires : goal.shift_in_all-requires
shift_in_all-requires c =
    let r = c.args.self.now in
    let o = (formed r).ordered in
    let h = missing-within (table r) (formed r) _ _ c.requires.0 in
    (omega (arith, h, c.requires.1, o.long.0), omega (arith, h, c.requires.1, o.long.1.0), c.requires.1)

pub invariant_of-self : goal.invariant_of-self
invariant_of-self c =
    let a = c.args in
    let r = a.self.now in
    record { formed = told _ (holds-as _ _ c.shift_in_all.ensures _ (put_in (table r) (formed r) a.e (omega (arith, c.requires.2)) a.i c.requires.0 c.requires.1)).formed }

pub returns : goal.returns
returns c =
    let a = c.args in
    let r = a.self.now in
    record {
      same = record { keys = refl; lengths = refl };
      entries = (holds-as _ _ c.shift_in_all.ensures _ (put_in (table r) (formed r) a.e (omega (arith, c.requires.2)) a.i c.requires.0 c.requires.1)).rows;
    }
