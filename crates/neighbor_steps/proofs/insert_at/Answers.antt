-- Each column is shifted from the place where the address is missing, and so the row is put in among the rows.
use Prim.Native.Nat.{◌+◌}
use native.Mathlib.Omega.{arith}
use mathlib.Core.Path.{sym, ap, ◌∙◌, subst}
use lib.ListN.{length}
use Rattle.standard.specs.Ordered as ordered
use Rattle.flat_map.proofs.Shift.{length-shift-in}
use Rattle.neighbor_table.specs.Entry.{neighbor_key}
use Rattle.neighbor_columns.specs.Table.{NeighborTable, in_columns, rows_of, Keeps}
use Rattle.neighbor_columns.proofs.Rows.{missing-within, put_in}
use Rattle.neighbor_columns.proofs.Stored.{words-inserted}
use Rattle.neighbor_steps.proofs.insert_at.Goals as goal

pub shift_in-requires : goal.shift_in-requires
shift_in-requires c =
    let a = c.args in
    let t = in_columns a.keys.now a.nwks.now a.links.now a.counts.now a.deadlines.now a.periods.now a.heard.now a.added.now a.beacons.now a.bytes.now a.count in
    omega (arith, missing-within t c.requires.0 _ _ c.requires.1, c.requires.2, c.requires.0.ordered.long.0)

pub shift_in-requires-2 : goal.shift_in-requires-2
shift_in-requires-2 c =
    let a = c.args in
    let t = in_columns a.keys.now a.nwks.now a.links.now a.counts.now a.deadlines.now a.periods.now a.heard.now a.added.now a.beacons.now a.bytes.now a.count in
    omega (arith, missing-within t c.requires.0 _ _ c.requires.1, c.requires.2, c.requires.0.ordered.long.1.0)

pub shift_in-requires-3 : goal.shift_in-requires-3
shift_in-requires-3 c =
    let a = c.args in
    let t = in_columns a.keys.now a.nwks.now a.links.now a.counts.now a.deadlines.now a.periods.now a.heard.now a.added.now a.beacons.now a.bytes.now a.count in
    omega (arith, missing-within t c.requires.0 _ _ c.requires.1, c.requires.2, c.requires.0.ordered.long.1.1.0)

pub shift_in-requires-4 : goal.shift_in-requires-4
shift_in-requires-4 c =
    let a = c.args in
    let t = in_columns a.keys.now a.nwks.now a.links.now a.counts.now a.deadlines.now a.periods.now a.heard.now a.added.now a.beacons.now a.bytes.now a.count in
    omega (arith, missing-within t c.requires.0 _ _ c.requires.1, c.requires.2, c.requires.0.ordered.long.1.1.1.0)

pub shift_in-requires-5 : goal.shift_in-requires-5
shift_in-requires-5 c =
    let a = c.args in
    let t = in_columns a.keys.now a.nwks.now a.links.now a.counts.now a.deadlines.now a.periods.now a.heard.now a.added.now a.beacons.now a.bytes.now a.count in
    omega (arith, missing-within t c.requires.0 _ _ c.requires.1, c.requires.2, c.requires.0.ordered.long.1.1.1.1.0)

pub shift_in-requires-6 : goal.shift_in-requires-6
shift_in-requires-6 c =
    let a = c.args in
    let t = in_columns a.keys.now a.nwks.now a.links.now a.counts.now a.deadlines.now a.periods.now a.heard.now a.added.now a.beacons.now a.bytes.now a.count in
    omega (arith, missing-within t c.requires.0 _ _ c.requires.1, c.requires.2, c.requires.0.ordered.long.1.1.1.1.1.0)

pub shift_in-requires-7 : goal.shift_in-requires-7
shift_in-requires-7 c =
    let a = c.args in
    let t = in_columns a.keys.now a.nwks.now a.links.now a.counts.now a.deadlines.now a.periods.now a.heard.now a.added.now a.beacons.now a.bytes.now a.count in
    omega (arith, missing-within t c.requires.0 _ _ c.requires.1, c.requires.2, c.requires.0.ordered.long.1.1.1.1.1.1.0)

pub shift_in-requires-8 : goal.shift_in-requires-8
shift_in-requires-8 c =
    let a = c.args in
    let t = in_columns a.keys.now a.nwks.now a.links.now a.counts.now a.deadlines.now a.periods.now a.heard.now a.added.now a.beacons.now a.bytes.now a.count in
    omega (arith, missing-within t c.requires.0 _ _ c.requires.1, c.requires.2, c.requires.0.ordered.long.1.1.1.1.1.1.1.0)

pub shift_in-requires-9 : goal.shift_in-requires-9
shift_in-requires-9 c =
    let a = c.args in
    let t = in_columns a.keys.now a.nwks.now a.links.now a.counts.now a.deadlines.now a.periods.now a.heard.now a.added.now a.beacons.now a.bytes.now a.count in
    omega (arith, missing-within t c.requires.0 _ _ c.requires.1, c.requires.2, c.requires.0.ordered.long.1.1.1.1.1.1.1.1.0)

pub shift_in-requires-10 : goal.shift_in-requires-10
shift_in-requires-10 c =
    let a = c.args in
    let t = in_columns a.keys.now a.nwks.now a.links.now a.counts.now a.deadlines.now a.periods.now a.heard.now a.added.now a.beacons.now a.bytes.now a.count in
    omega (arith, missing-within t c.requires.0 _ _ c.requires.1, c.requires.2, c.requires.0.ordered.long.1.1.1.1.1.1.1.1.1.0)

pub overflow_add-result : goal.overflow_add-result
overflow_add-result c = omega (arith, c.requires.2)

pub shape_of-keys : goal.shape_of-keys
shape_of-keys c = ap length c.shift_in.ensures ∙ length-shift-in c.args.keys.now _ _

pub shape_of-nwks : goal.shape_of-nwks
shape_of-nwks c = ap length c.shift_in-2.ensures ∙ length-shift-in c.args.nwks.now _ _

pub shape_of-links : goal.shape_of-links
shape_of-links c = ap length c.shift_in-3.ensures ∙ length-shift-in c.args.links.now _ _

pub shape_of-counts : goal.shape_of-counts
shape_of-counts c = ap length c.shift_in-4.ensures ∙ length-shift-in c.args.counts.now _ _

pub shape_of-deadlines : goal.shape_of-deadlines
shape_of-deadlines c = ap length c.shift_in-5.ensures ∙ length-shift-in c.args.deadlines.now _ _

pub shape_of-periods : goal.shape_of-periods
shape_of-periods c = ap length c.shift_in-6.ensures ∙ length-shift-in c.args.periods.now _ _

pub shape_of-heard : goal.shape_of-heard
shape_of-heard c = ap length c.shift_in-7.ensures ∙ length-shift-in c.args.heard.now _ _

pub shape_of-added : goal.shape_of-added
shape_of-added c = ap length c.shift_in-8.ensures ∙ length-shift-in c.args.added.now _ _

pub shape_of-beacons : goal.shape_of-beacons
shape_of-beacons c = ap length c.shift_in-9.ensures ∙ length-shift-in c.args.beacons.now _ _

pub shape_of-bytes : goal.shape_of-bytes
shape_of-bytes c = ap length c.shift_in-10.ensures ∙ length-shift-in c.args.bytes.now _ _

pub returns : goal.returns
returns c =
    let a = c.args in
    let t = in_columns a.keys.now a.nwks.now a.links.now a.counts.now a.deadlines.now a.periods.now a.heard.now a.added.now a.beacons.now a.bytes.now a.count in
    subst (λ (x : NeighborTable). Keeps x (ordered.put neighbor_key a.e (rows_of t)))
    (sym ((λ z. in_columns (c.shift_in.ensures z) (c.shift_in-2.ensures z) (c.shift_in-3.ensures z) (c.shift_in-4.ensures z) (c.shift_in-5.ensures z) (c.shift_in-6.ensures z) (c.shift_in-7.ensures z) (c.shift_in-8.ensures z) (c.shift_in-9.ensures z) (c.shift_in-10.ensures z) (a.count + 1))
    ∙ words-inserted t a.i a.e _ c.words_of-w.ensures.0))
    (put_in t c.requires.0 a.e c.words_of-w.ensures.1 a.i c.requires.1 c.requires.2)
