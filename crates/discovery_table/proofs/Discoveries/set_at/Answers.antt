-- The word and the end of the discovery over those of its pair: the key that stands there is its own.
-- Assumes nothing.
use mathlib.Core.Path.{refl}
use native.Mathlib.Omega.{arith}
use Rattle.discovery_table.specs.Codec.{InRange}
use Rattle.discovery_table.specs.Lent.{table}
use Rattle.discovery_table.proofs.Lent.{formed, told, over}
use Rattle.discovery_table.proofs.Rows.{place-within}
use Rattle.discovery_table.proofs.Discoveries.set_at.Goals as goal

pub write_over-requires : goal.write_over-requires
write_over-requires c =
    let d = c.args.self.now in
    let w = formed d in
    let h = place-within (table d) w _ _ c.requires in
    (omega (arith, h, w.ordered.small, w.ordered.long.1.0), omega (arith, h, w.ordered.small, w.ordered.long.1.1.0))

pub invariant_of-self : goal.invariant_of-self
invariant_of-self c =
    let a = c.args in
    let d = a.self.now in
    let n : InRange a.e = record { source = omega (arith, c.well_formed); id = omega (arith, c.well_formed); sender = omega (arith, c.well_formed); destination = omega (arith, c.well_formed); forward = omega (arith, c.well_formed); residual = omega (arith, c.well_formed) } in
    record { formed = told _ (over (table d) (formed d) a.e n a.i c.requires _ _ _ c.word_of-w.ensures c.write_over.ensures.words c.write_over.ensures.ends).formed }

pub returns : goal.returns
returns c =
    let a = c.args in
    let d = a.self.now in
    let n : InRange a.e = record { source = omega (arith, c.well_formed); id = omega (arith, c.well_formed); sender = omega (arith, c.well_formed); destination = omega (arith, c.well_formed); forward = omega (arith, c.well_formed); residual = omega (arith, c.well_formed) } in
    record {
      same = record { keys = refl; words = refl; ends = refl };
      discoveries = (over (table d) (formed d) a.e n a.i c.requires _ _ _ c.word_of-w.ensures c.write_over.ensures.words c.write_over.ensures.ends).rows;
    }
