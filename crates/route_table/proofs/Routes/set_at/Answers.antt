-- The route's word and usage count over those of its destination: the key that stands there is its own.
-- Assumes nothing.
use mathlib.Core.Path.{refl}
use native.Mathlib.Omega.{arith}
use Rattle.route_table.specs.Codec.{InRange}
use Rattle.route_table.specs.Lent.{table}
use Rattle.route_table.proofs.Lent.{formed, told, over}
use Rattle.route_table.proofs.Rows.{in-columns, place-within}
use Rattle.route_table.proofs.Routes.set_at.Goals as goal

pub write_over-requires : goal.write_over-requires
write_over-requires c =
    let r = c.args.self.now in
    let h = in-columns (table r) (formed r) _ (place-within (table r) (formed r) _ _ c.requires) in
    (h.1, h.2)

pub invariant_of-self : goal.invariant_of-self
invariant_of-self c =
    let a = c.args in
    let r = a.self.now in
    let n : InRange a.e = record { hop = omega (arith, c.well_formed); cost = omega (arith, c.well_formed); recent = omega (arith, c.well_formed) } in
    record { formed = told _ (over (table r) (formed r) a.e n a.i c.requires _ _ _ c.word_of-w.ensures c.write_over.ensures.words c.write_over.ensures.usage).formed }

pub returns : goal.returns
returns c =
    let a = c.args in
    let r = a.self.now in
    let n : InRange a.e = record { hop = omega (arith, c.well_formed); cost = omega (arith, c.well_formed); recent = omega (arith, c.well_formed) } in
    record {
      stored = record {
        same = record { keys = refl; words = refl; usage = refl };
        routes = (over (table r) (formed r) a.e n a.i c.requires _ _ _ c.word_of-w.ensures c.write_over.ensures.words c.write_over.ensures.usage).rows;
      };
      kept = record { keys = refl; count = refl };
    }
