-- The number of relays over the one of its destination: the key that stands there is its own.
-- Assumes nothing.
use mathlib.Core.Path.{refl}
use native.Mathlib.Omega.{arith}
use Rattle.record_table.specs.Lent.{table}
use Rattle.record_table.proofs.Lent.{formed, told}
use Rattle.record_table.proofs.Rows.{place-within, stored-over}
use Rattle.record_table.proofs.Records.set_at.Goals as goal

pub bounds-self-i : goal.bounds-self-i
bounds-self-i c =
    let r = c.args.self.now in
    omega (arith, place-within (table r) (formed r) _ _ c.requires.0, (formed r).ordered.small, (formed r).ordered.long.1.0)

pub invariant_of-self : goal.invariant_of-self
invariant_of-self c =
    let a = c.args in
    let r = a.self.now in
    record { formed = told _ (stored-over (table r) (formed r) a.e (omega (arith, c.requires.1)) a.i c.requires.0).formed }

pub returns : goal.returns
returns c =
    let a = c.args in
    let r = a.self.now in
    record {
      same = record { keys = refl; lengths = refl };
      entries = (stored-over (table r) (formed r) a.e (omega (arith, c.requires.1)) a.i c.requires.0).rows;
    }
