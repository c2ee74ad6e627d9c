-- Each column is shifted from the place where the pair is missing, and so the discovery is put in among the rows.
-- Assumes nothing.
use mathlib.Core.Path.{refl}
use native.Mathlib.Omega.{arith}
use Rattle.discovery_table.specs.Codec.{InRange}
use Rattle.discovery_table.specs.Lent.{table}
use Rattle.discovery_table.proofs.Lent.{formed, told, put-in}
use Rattle.discovery_table.proofs.Rows.{missing-within}
use Rattle.discovery_table.proofs.Discoveries.insert_at.Goals as goal

pub shift_in_all-requires : goal.shift_in_all-requires
shift_in_all-requires c =
    let d = c.args.self.now in
    let w = formed d in
    let h = missing-within (table d) w _ _ c.requires.0 in
    (omega (arith, h, c.requires.1, w.ordered.long.0), omega (arith, h, c.requires.1, w.ordered.long.1.0), omega (arith, h, c.requires.1, w.ordered.long.1.1.0), c.requires.1)

pub invariant_of-self : goal.invariant_of-self
invariant_of-self c =
    let a = c.args in
    let d = a.self.now in
    let n : InRange a.e = record { source = omega (arith, c.well_formed); id = omega (arith, c.well_formed); sender = omega (arith, c.well_formed); destination = omega (arith, c.well_formed); forward = omega (arith, c.well_formed); residual = omega (arith, c.well_formed) } in
    record { formed = told _ (put-in (table d) (formed d) a.e n a.i c.requires.0 c.requires.1 _ _ c.pair_key-key.ensures c.word_of-w.ensures _ c.shift_in_all.ensures).formed }

pub returns : goal.returns
returns c =
    let a = c.args in
    let d = a.self.now in
    let n : InRange a.e = record { source = omega (arith, c.well_formed); id = omega (arith, c.well_formed); sender = omega (arith, c.well_formed); destination = omega (arith, c.well_formed); forward = omega (arith, c.well_formed); residual = omega (arith, c.well_formed) } in
    record {
      same = record { keys = refl; words = refl; ends = refl };
      discoveries = (put-in (table d) (formed d) a.e n a.i c.requires.0 c.requires.1 _ _ c.pair_key-key.ensures c.word_of-w.ensures _ c.shift_in_all.ensures).rows;
    }
