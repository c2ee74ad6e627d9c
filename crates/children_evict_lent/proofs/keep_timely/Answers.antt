-- At each turn the rest of the sweep, done now, gives the rows that stay. The measure is the rows not passed, which a removal lessens too.
use Prim.Native.Nat.{◌-◌}
use native.Mathlib.Omega.{arith}
use mathlib.Core.Bool.{not}
use mathlib.Core.Path.{◌≡◌, sym, ap, ◌∙◌, subst}
use Rattle.standard.specs.Ordered.{keep}
use Rattle.neighbor_table.specs.declared.NeighborEntry.{NeighborEntry}
use Rattle.neighbor_columns.specs.Table.{NeighborTable, in_columns, rows_of}
use Rattle.neighbor_columns.proofs.Rows.{in-places}
use Rattle.neighbor_columns.proofs.Sweeps.{Sweeping, sweep-begins, sweep-formed, sweep-passes, sweep-takes, sweep-ends}
use Rattle.neighbor_queries.specs.declared.Filter.TheVariants.{TimedOut}
use Rattle.neighbor_queries.specs.Filter.{fits}
use Rattle.neighbor_queries_lent.proofs.Loops.{in-time}
use Rattle.neighbor_changes.specs.Change.{misses}
use Rattle.children_evict_lent.proofs.Sweep.{swept-holds}
use Rattle.children_evict_lent.proofs.keep_timely.Goals as goal

pub loop-i-init : goal.loop-i-init
loop-i-init c =
    let a = c.args in
    let t = in_columns a.keys.now a.nwks.now a.links.now a.counts.now a.deadlines.now a.periods.now a.heard.now a.added.now a.beacons.now a.bytes.now a.count in
    sweep-begins (misses (TimedOut a.now_ms)) t c.requires.formed

pub offset_bounds-links-i : goal.offset_bounds-links-i
offset_bounds-links-i c = omega (arith, c.loop-i.invariant.sound.ordered.small)

pub bounds-links-i : goal.bounds-links-i
bounds-links-i c = omega (arith, c.loop-i.invariant.sound.ordered.small, c.loop-i.invariant.sound.ordered.long.1.1.0)

pub offset_bounds-deadlines-i : goal.offset_bounds-deadlines-i
offset_bounds-deadlines-i c = omega (arith, c.loop-i.invariant.sound.ordered.small)

pub bounds-deadlines-i : goal.bounds-deadlines-i
bounds-deadlines-i c = omega (arith, c.loop-i.invariant.sound.ordered.small, c.loop-i.invariant.sound.ordered.long.1.1.1.1.0)

pub remove_at-n-requires : goal.remove_at-n-requires
remove_at-n-requires c =
    let a = c.args in
    let t = in_columns a.keys.now a.nwks.now a.links.now a.counts.now a.deadlines.now a.periods.now a.heard.now a.added.now a.beacons.now a.bytes.now a.count in
    let v = c.loop-i in
    let u = in_columns v.keys v.nwks v.links v.counts v.deadlines v.periods v.heard v.added v.beacons v.bytes v.n in
    (in-places u (sweep-formed (misses (TimedOut a.now_ms)) u _ v.i v.invariant) v.i c.loop-i-test.true, omega (arith, c.loop-i-test.true))

pub loop-i-smaller-then-is_timed_out : goal.loop-i-smaller-then-is_timed_out
loop-i-smaller-then-is_timed_out c = omega (arith, ap (λ (x : NeighborTable). x.count) c.remove_at-n.ensures)

pub loop-i-preserved-then-is_timed_out : goal.loop-i-preserved-then-is_timed_out
loop-i-preserved-then-is_timed_out c =
    let a = c.args in
    let t = in_columns a.keys.now a.nwks.now a.links.now a.counts.now a.deadlines.now a.periods.now a.heard.now a.added.now a.beacons.now a.bytes.now a.count in
    let v = c.loop-i in
    let u = in_columns v.keys v.nwks v.links v.counts v.deadlines v.periods v.heard v.added v.beacons v.bytes v.n in
    subst (λ (x : NeighborTable). Sweeping (misses (TimedOut a.now_ms)) (keep (misses (TimedOut a.now_ms)) (rows_of t)) x v.i) (sym c.remove_at-n.ensures) (sweep-takes (misses (TimedOut a.now_ms)) u _ v.i v.invariant c.loop-i-test.true (ap not (sym (in-time u v.i (λ (e : NeighborEntry). c.is_timed_out.result ≡ fits (TimedOut a.now_ms) e) c.is_timed_out.ensures) ∙ c.if-is_timed_out.true)))

pub loop-i-preserved : goal.loop-i-preserved
loop-i-preserved c =
    let a = c.args in
    let t = in_columns a.keys.now a.nwks.now a.links.now a.counts.now a.deadlines.now a.periods.now a.heard.now a.added.now a.beacons.now a.bytes.now a.count in
    let v = c.loop-i in
    let u = in_columns v.keys v.nwks v.links v.counts v.deadlines v.periods v.heard v.added v.beacons v.bytes v.n in
    sweep-passes (misses (TimedOut a.now_ms)) u _ v.i v.invariant c.loop-i-test.true (ap not (sym (in-time u v.i (λ (e : NeighborEntry). c.is_timed_out.result ≡ fits (TimedOut a.now_ms) e) c.is_timed_out.ensures) ∙ c.if-is_timed_out.false))

pub shape_of-keys : goal.shape_of-keys
shape_of-keys c = c.loop-i.invariant.sound.ordered.long.0 ∙ sym c.requires.formed.ordered.long.0

pub shape_of-nwks : goal.shape_of-nwks
shape_of-nwks c = c.loop-i.invariant.sound.ordered.long.1.0 ∙ sym c.requires.formed.ordered.long.1.0

pub shape_of-links : goal.shape_of-links
shape_of-links c = c.loop-i.invariant.sound.ordered.long.1.1.0 ∙ sym c.requires.formed.ordered.long.1.1.0

pub shape_of-counts : goal.shape_of-counts
shape_of-counts c = c.loop-i.invariant.sound.ordered.long.1.1.1.0 ∙ sym c.requires.formed.ordered.long.1.1.1.0

pub shape_of-deadlines : goal.shape_of-deadlines
shape_of-deadlines c = c.loop-i.invariant.sound.ordered.long.1.1.1.1.0 ∙ sym c.requires.formed.ordered.long.1.1.1.1.0

pub shape_of-periods : goal.shape_of-periods
shape_of-periods c = c.loop-i.invariant.sound.ordered.long.1.1.1.1.1.0 ∙ sym c.requires.formed.ordered.long.1.1.1.1.1.0

pub shape_of-heard : goal.shape_of-heard
shape_of-heard c = c.loop-i.invariant.sound.ordered.long.1.1.1.1.1.1.0 ∙ sym c.requires.formed.ordered.long.1.1.1.1.1.1.0

pub shape_of-added : goal.shape_of-added
shape_of-added c = c.loop-i.invariant.sound.ordered.long.1.1.1.1.1.1.1.0 ∙ sym c.requires.formed.ordered.long.1.1.1.1.1.1.1.0

pub shape_of-beacons : goal.shape_of-beacons
shape_of-beacons c = c.loop-i.invariant.sound.ordered.long.1.1.1.1.1.1.1.1.0 ∙ sym c.requires.formed.ordered.long.1.1.1.1.1.1.1.1.0

pub shape_of-bytes : goal.shape_of-bytes
shape_of-bytes c = c.loop-i.invariant.sound.ordered.long.1.1.1.1.1.1.1.1.1.0 ∙ sym c.requires.formed.ordered.long.1.1.1.1.1.1.1.1.1.0

pub returns : goal.returns
returns c =
    let a = c.args in
    let t = in_columns a.keys.now a.nwks.now a.links.now a.counts.now a.deadlines.now a.periods.now a.heard.now a.added.now a.beacons.now a.bytes.now a.count in
    let v = c.loop-i in
    let u = in_columns v.keys v.nwks v.links v.counts v.deadlines v.periods v.heard v.added v.beacons v.bytes v.n in
    swept-holds t c.requires a.now_ms _ (sweep-ends (misses (TimedOut a.now_ms)) u _ v.i v.invariant c.loop-i-test.false)
