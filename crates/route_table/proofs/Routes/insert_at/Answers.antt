-- Each column is shifted from the place where the destination is missing, and so the route is put in among the rows.
-- Assumes nothing.
use Prim.Native.Nat.{ℕ, ◌+◌}
use mathlib.Core.Bool.{true}
use mathlib.Core.Path.{◌≡◌, refl, sym, ap, ◌∙◌, subst}
use native.Mathlib.Omega.{arith}
use Rattle.flat_map.specs.Shift.{shift_in}
use Rattle.route_table.specs.Codec.{InRange}
use Rattle.route_table.specs.Lent.{table}
use Rattle.route_table.specs.Table.{RouteTable, in_columns, well_formed, rows_of}
use Rattle.route_table.proofs.Lent.{formed, told}
use Rattle.route_table.proofs.Rows.{missing-place, in-holds}
use Rattle.route_table.proofs.Routes.insert_at.Goals as goal

pub shift_in_all-requires : goal.shift_in_all-requires
shift_in_all-requires c =
    let r = c.args.self.now in
    let w = formed r in
    let h = missing-place (table r) w _ _ c.requires.0 in
    (omega (arith, h, c.requires.1, w.ordered.long.0), omega (arith, h, c.requires.1, w.ordered.long.1.0), omega (arith, h, c.requires.1, w.ordered.long.1.1.0), c.requires.1)

pub invariant_of-self : goal.invariant_of-self
invariant_of-self c =
    let a = c.args in
    let r = a.self.now in
    let n : InRange a.e = record { hop = omega (arith, c.well_formed); cost = omega (arith, c.well_formed); recent = omega (arith, c.well_formed) } in
    let now = c.shift_in_all.ensures ∙ ap (λ (v : ℕ). in_columns (shift_in a.i a.e.destination.0 r.keys.now) (shift_in a.i v r.words.now) (shift_in a.i a.e.total_usage_count r.usage.now) (r.count + 1)) c.word_of-w.ensures in
    record { formed = subst (λ (t : RouteTable). well_formed t ≡ true) (sym now) (told _ (in-holds (table r) (formed r) a.e n a.i c.requires.0 c.requires.1).formed) }

pub returns : goal.returns
returns c =
    let a = c.args in
    let r = a.self.now in
    let n : InRange a.e = record { hop = omega (arith, c.well_formed); cost = omega (arith, c.well_formed); recent = omega (arith, c.well_formed) } in
    let now = c.shift_in_all.ensures ∙ ap (λ (v : ℕ). in_columns (shift_in a.i a.e.destination.0 r.keys.now) (shift_in a.i v r.words.now) (shift_in a.i a.e.total_usage_count r.usage.now) (r.count + 1)) c.word_of-w.ensures in
    record {
      same = record { keys = refl; words = refl; usage = refl };
      routes = ap rows_of now ∙ (in-holds (table r) (formed r) a.e n a.i c.requires.0 c.requires.1).rows;
    }
