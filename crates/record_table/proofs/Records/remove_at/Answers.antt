-- The place is that of the destination, so that it is in use, and what is taken out of each column there is `remove` on the entries.
-- Assumes nothing.
use mathlib.Core.Path.{refl}
use native.Mathlib.Omega.{arith}
use Rattle.record_table.specs.Lent.{table}
use Rattle.record_table.proofs.Lent.{formed, told, holds-as}
use Rattle.record_table.proofs.Rows.{place-within, taken_out}
use Rattle.record_table.proofs.Records.remove_at.Goals as goal

pub shift_out_all-requires : goal.shift_out_all-requires
shift_out_all-requires c =
    let r = c.args.self.now in
    let o = (formed r).ordered in
    let h = place-within (table r) (formed r) _ _ c.requires in
    (omega (arith, h, o.small, o.long.0), omega (arith, h, o.small, o.long.1.0), h)

pub invariant_of-self : goal.invariant_of-self
invariant_of-self c =
    let a = c.args in
    let r = a.self.now in
    record { formed = told _ (holds-as _ _ c.shift_out_all.ensures _ (taken_out (table r) (formed r) a.destination.0 a.i c.requires)).formed }

pub returns : goal.returns
returns c =
    let a = c.args in
    let r = a.self.now in
    record {
      same = record { keys = refl; lengths = refl };
      entries = (holds-as _ _ c.shift_out_all.ensures _ (taken_out (table r) (formed r) a.destination.0 a.i c.requires)).rows;
    }
